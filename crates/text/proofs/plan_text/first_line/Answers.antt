-- `plan_text::first_line` meets its contract.
use mathlib.Core.Path.{ap, ◌∙◌}
use Rattle.words.specs.Appending.{with_bytes}
use Rattle.words.specs.Numerals.{hex_of}
use Rattle.words.proofs.append.Buffers.{bytes_then}
use Rattle.text.proofs.plan_text.Laws.{first_line_lem}
use Rattle.text.proofs.plan_text.first_line.Goals as goal

pub returns : goal.returns
returns g c =
    bytes_then _ _ _ _ c.push_bytes.ensures (bytes_then _ _ _ _ c.put_fields.ensures (bytes_then _ _ _ _ c.push_bytes-2.ensures
    (bytes_then _ _ _ _ (c.push_hex.ensures ∙ ap (with_bytes _ _) (ap hex_of c.double.ensures)) c.word_line.ensures)))
    ∙ ap (with_bytes _ _) (first_line_lem _)
