-- `merging::merges`: those before are apart.
use mathlib.Core.Path.{◌≡◌}
use mathlib.Core.Option.{none}
use lib.ListN.{take}
use Rattle.model.specs.Merge.{first_pair}
use Rattle.sheet.proofs.merging.merges.Given as goal

abbrev pub invariant-loop-right : goal.invariant-loop-right
invariant-loop-right l = first_pair l.kerf_width (take l.right l.free) ≡ none
