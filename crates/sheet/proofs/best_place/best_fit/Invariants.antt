-- The best of the places up to the next rectangle in which the cut fits, or of all where there is none.
use Rattle.std.proofs.Common.{◌-◌, ◌<◌, None, IfSome, unwrap_or, length}
use Rattle.sheet.specs.Places.{Over}
use Rattle.sheet.proofs.best_place.Search.{seen}
use Rattle.sheet.proofs.best_place.best_fit.Given as goal

abbrev pub invariant-loop-next : goal.invariant-loop-next
invariant-loop-next l = Over l.heuristic None (seen l.free l.ways l.cut l.heuristic (unwrap_or l.next (length l.free))) l.best × IfSome l.next (λ k. k < length l.free)

abbrev pub decreases-loop-next : goal.decreases-loop-next
decreases-loop-next l = length l.free - unwrap_or l.next (length l.free)
