-- `project::total_quantity` meets its contract: the quantities so far and those of the records left are all of them.
use Prim.Native.Nat.{◌+◌, ◌*◌, ◌^◌, ◌≤◌}
use mathlib.Core.Path.{◌≡◌}
use Rattle.model.specs.Refusal.{total_quantity}
use Rattle.project.specs.Records.{records}
use Rattle.project.proofs.Records.{left}
use Rattle.project.proofs.total_quantity.Given as goal

abbrev pub invariant-loop-i : goal.invariant-loop-i
invariant-loop-i l = (l.total ≤ 2 ^ 32 * l.i) × (l.total + total_quantity (left l.body l.i) ≡ total_quantity (records l.body))
