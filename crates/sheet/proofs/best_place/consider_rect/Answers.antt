-- `best_place::consider_rect` meets its contract: one more fit, where it is there.
use Rattle.std.proofs.Common.{◌<◌, length, append-nil, arith}
use Rattle.sheet.specs.Places.{place_at}
use Rattle.sheet.proofs.best_place.Search.{over_none, over_then, fits_step}
use Rattle.sheet.proofs.best_place.consider_rect.Goals as goal
use Rattle.sheet.proofs.best_place.consider_rect.Goals.{in-Some, in_default}

pub loop-fit-init : goal.loop-fit-init
loop-fit-init c = over_none c.args.heuristic c.args.best c.requires

pub loop-fit-preserved : goal.loop-fit-preserved
loop-fit-preserved c =
    let here : c.loop-fit.fit-index < length c.fits_by_ways-fit-items.result = omega arith in
    let step = fits_step (place_at c.args.index c.args.free_rect) c.fits_by_ways-fit-items.result c.loop-fit.fit-index here in
    elim c.match-fit.branch [
      | in-Some w ↦ rw (w.best-is, step, w.in-Some.is) (over_then c.args.heuristic c.args.best c.loop-fit.best _ _ _ c.loop-fit.invariant w.consider_fit-best.ensures)
      | in_default w ↦ rw (w.best-is, step, w.in_default.is, append-nil) c.loop-fit.invariant
    ]
