-- The best of what was there before and of the fits so far.
use Rattle.std.proofs.Common.{map, take}
use Rattle.fits.specs.FitList.{fits_of}
use Rattle.sheet.specs.Places.{place_at, Over}
use Rattle.sheet.proofs.best_place.consider_rect.Given as goal

abbrev pub invariant-loop-fit : goal.invariant-loop-fit
invariant-loop-fit l = Over l.heuristic l.initial.best (map (place_at l.index l.free_rect) (fits_of (take l.fit-index l.fit-items))) l.best
