-- `instances::sorted` meets its contract: the first boards by the numbers of the order.
use Rattle.project.proofs.instances.Made.{Boards}
use Rattle.project.proofs.instances.sorted.Given as goal

abbrev pub invariant-loop-number : goal.invariant-loop-number
invariant-loop-number l = Boards l.raw l.number-items l.stock.items l.number-index
