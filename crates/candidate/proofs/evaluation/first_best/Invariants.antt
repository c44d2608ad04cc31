-- The loop's invariant: what is left, from the best sheet so far, gives what all sheets give.
use lib.ListN.{length}
use Rattle.candidate.specs.OnSheets.{share_at}
use Rattle.candidate.proofs.evaluation.BestIndex.{Held}
use Rattle.candidate.proofs.evaluation.first_best.Given as goal

abbrev pub invariant-loop-k : goal.invariant-loop-k
invariant-loop-k g l = Held g.order (share_at l.sheets) (length l.sheets) l.best l.held l.k
