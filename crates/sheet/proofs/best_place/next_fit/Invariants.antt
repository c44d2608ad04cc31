-- The cut fits in none of the rectangles so far.
use Rattle.std.proofs.Common.{ℕ, ◌≤◌, ◌<◌, false}
use Rattle.sheet.specs.Places.{LiesIn}
use Rattle.sheet.proofs.best_place.next_fit.Given as goal

abbrev pub invariant-loop-index : goal.invariant-loop-index
invariant-loop-index l = (k : ℕ) → l.from ≤ k → k < l.index → LiesIn l.ways l.width l.length l.free k false
