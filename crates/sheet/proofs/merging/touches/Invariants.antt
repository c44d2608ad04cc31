-- `merging::touches`: what is left says what the whole says.
use mathlib.Core.Path.{◌≡◌}
use lib.ListN.{drop}
use Rattle.sheet.specs.Merging.{touches}
use Rattle.sheet.proofs.merging.touches.Given as goal

abbrev pub invariant-loop-other : goal.invariant-loop-other
invariant-loop-other l = touches l.kerf_width l.rect (drop l.other-index l.free) ≡ touches l.kerf_width l.rect l.free
