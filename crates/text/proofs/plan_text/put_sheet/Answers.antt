-- `plan_text::put_sheet` meets its contract: the parts of a body one after the other.
use mathlib.Core.Path.{ap, ◌∙◌}
use Rattle.words.specs.Appending.{with_bytes}
use Rattle.words.proofs.append.Buffers.{bytes_then}
use Rattle.text.proofs.plan_text.Laws.{sheet_text_lem}
use Rattle.text.proofs.plan_text.put_sheet.Goals as goal

pub returns : goal.returns
returns g c =
    bytes_then _ _ _ _ c.id_line.ensures (bytes_then _ _ _ _ c.put_pieces.ensures (bytes_then _ _ _ _ c.put_waste.ensures (bytes_then _ _ _ _ c.word_line.ensures c.put_nodes.ensures)))
    ∙ ap (with_bytes _ _) (sheet_text_lem _ _ _ _ c.word-pieces.ensures c.word-waste.ensures c.word-nodes.ensures)
