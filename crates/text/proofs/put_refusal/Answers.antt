-- `text::put_refusal` meets its contract.
use mathlib.Core.Path.{ap, ◌∙◌}
use Rattle.words.specs.Appending.{with_bytes}
use Rattle.words.specs.Numerals.{decimal_of}
use Rattle.words.proofs.append.Buffers.{bytes_then}
use Rattle.text.specs.Text.{refusal_text}
use Rattle.text.proofs.put_refusal.Goals as goal

pub returns : goal.returns
unfolding refusal_text
returns g c =
    bytes_then _ _ _ _ c.push_bytes.ensures (bytes_then _ _ _ _ (c.push_decimal.ensures ∙ ap (with_bytes _ _) (ap decimal_of (c.from.ensures ∙ c.number.ensures))) c.push.ensures)
