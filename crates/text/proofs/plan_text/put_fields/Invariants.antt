-- The fields passed are in the buffer.
use mathlib.Core.Path.{◌≡◌}
use Rattle.lists.specs.Base.{concat_map, range}
use Rattle.words.specs.Appending.{with_bytes}
use Rattle.text.specs.BodyLines.{field_at}
use Rattle.text.proofs.plan_text.put_fields.Given as goal

abbrev pub invariant-loop-i : goal.invariant-loop-i
invariant-loop-i g l = l.text ≡ with_bytes g.row.N l.initial.text (concat_map (field_at l.words l.from) (range l.i))
