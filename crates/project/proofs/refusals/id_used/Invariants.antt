-- `refusals::id_used` meets its contract: no record before the present one has the id.
use mathlib.Core.Path.{◌≡◌}
use mathlib.Core.Bool.{false}
use Rattle.project.proofs.refusals.Checks.{among}
use Rattle.project.proofs.refusals.id_used.Given as goal

abbrev pub invariant-loop-k : goal.invariant-loop-k
invariant-loop-k l = among l.body l.id l.k ≡ false
