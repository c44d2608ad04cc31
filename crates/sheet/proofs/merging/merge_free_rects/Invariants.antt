-- `merging::merge_free_rects`: the rounds that are left lead where all of them lead, and the flag is set once there was a merge. The measure is the count, which each merge lowers.
use Rattle.std.proofs.Common.{◌≡◌, ◌||◌, length}
use Rattle.model.specs.Merge.{merge_rounds, merges_any}
use Rattle.sheet.specs.Merging.{Scannable}
use Rattle.sheet.proofs.merging.merge_free_rects.Given as goal

abbrev pub invariant-loop-pair : goal.invariant-loop-pair
invariant-loop-pair l = Scannable l.kerf_width l.free l.fresh
    × (merge_rounds (length l.free) l.kerf_width l.free ≡ merge_rounds (length l.initial.free) l.kerf_width l.initial.free)
    × ((l.any || merges_any l.kerf_width l.free) ≡ merges_any l.kerf_width l.initial.free)

abbrev pub decreases-loop-pair : goal.decreases-loop-pair
decreases-loop-pair l = length l.free
