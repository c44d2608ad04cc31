-- `plan_text::put_fields` meets its contract: a field for each word.
use mathlib.Core.Path.{ap, ◌∙◌}
use Rattle.words.specs.Appending.{with_bytes}
use Rattle.words.proofs.append.Buffers.{bytes_begin, bytes_next}
use Rattle.text.proofs.plan_text.Laws.{field_here}
use Rattle.text.specs.BodyLines.{field_at}
use borrow.Author.Rules.{rules}
use Rattle.text.proofs.plan_text.put_fields.Goals as goal

pub loop-i-init : goal.loop-i-init
loop-i-init g c = bytes_begin _ _ _

pub loop-i-preserved : goal.loop-i-preserved
loop-i-preserved g c = bytes_next (field_at _ _) _ _ _ c.loop-i.invariant (c.put_field.ensures ∙ ap (with_bytes _ _) (field_here _ _ _ _ (search rules)))
