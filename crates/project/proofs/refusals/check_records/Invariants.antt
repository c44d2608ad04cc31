-- `refusals::check_records` meets its contract: what is left of the records gives what all of them give.
use Prim.Native.Nat.{◌*◌, ◌^◌, ◌≤◌}
use mathlib.Core.Path.{◌≡◌}
use Rattle.project.specs.Checks.{rule_of}
use Rattle.project.proofs.refusals.Checks.{rest}
use Rattle.project.proofs.refusals.check_records.Given as goal

abbrev pub invariant-loop-i : goal.invariant-loop-i
invariant-loop-i l = (l.count ≤ 2 ^ 32 * l.i) × (rest l.body (rule_of l.kind) l.i l.count ≡ rest l.body (rule_of l.kind) 0 0)
