-- The loop's invariant: what is left, from the best sheet so far, gives what all sheets give.
use native.Mathlib.Omega.{arith}
use mathlib.Core.Path.{◌≡◌}
use lib.ListN.{length}
use Rattle.candidate.specs.OnSheets.{share_at}
use Rattle.candidate.proofs.evaluation.BestIndex.{held_next, held_stays, best_all}
use Rattle.candidate.proofs.evaluation.first_best.Goals as goal
use Rattle.candidate.proofs.evaluation.first_best.Goals.{then-better, else-better}

pub loop-k-preserved : goal.loop-k-preserved
loop-k-preserved g c =
    let answer : c.better.result ≡ g.order c.sheet_fitness-f.result c.loop-k.held = c.requires.1.1.1 _ _ _ c.better.ensures in
    elim c.if-better.branch [
      | then-better w ↦ rw (w.best-is, w.held-is) (held_next g.order (share_at c.args.sheets.now) (length c.args.sheets.now) c.loop-k.best c.loop-k.k c.loop-k.held c.sheet_fitness-f.result c.better.result c.loop-k-test.true c.sheet_fitness-f.ensures answer c.loop-k.invariant w.if-better.true)
      | else-better w ↦ rw (w.best-is, w.held-is) (held_stays g.order (share_at c.args.sheets.now) (length c.args.sheets.now) c.loop-k.best c.loop-k.k c.loop-k.held c.sheet_fitness-f.result c.better.result c.loop-k-test.true c.sheet_fitness-f.ensures answer c.loop-k.invariant w.if-better.false)
    ]

pub returns : goal.returns
returns g c = (omega arith, best_all g.order (share_at c.args.sheets.now) (length c.args.sheets.now) c.loop-k.best c.loop-k.k c.loop-k-test.false c.loop-k.invariant.1)
