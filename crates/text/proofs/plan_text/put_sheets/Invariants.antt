-- The sheets passed are in the buffer.
use mathlib.Core.Path.{◌≡◌}
use Rattle.lists.specs.Base.{concat_map, range}
use Rattle.words.specs.Appending.{with_bytes}
use Rattle.text.specs.BodyLines.{sheet_at}
use Rattle.text.proofs.plan_text.put_sheets.Given as goal

abbrev pub invariant-loop-k : goal.invariant-loop-k
invariant-loop-k g l = l.text ≡ with_bytes g.row.N l.initial.text (concat_map (sheet_at l.words) (range l.k))
