-- `merging::find_pair`: what is left of the scan, from here on, finds what the whole scan finds, and nothing is found yet.
use Rattle.std.proofs.Common.{◌≡◌, ◌+◌, drop, None}
use Rattle.lists.specs.Base.{◌<|>◌}
use Rattle.model.specs.Merge.{find_right, find_pair, first_pair}
use Rattle.sheet.proofs.merging.find_pair.Given as goal

abbrev pub invariant-scan : goal.invariant-scan
invariant-scan l = (l.found ≡ None) × (find_pair l.kerf_width l.left (drop l.left l.free) ≡ first_pair l.kerf_width l.free)

abbrev pub invariant-loop-right : goal.invariant-loop-right
invariant-loop-right l = (l.found ≡ None)
    × ((find_right l.kerf_width l.left l.left_rect l.right (drop l.right l.free) <|> find_pair l.kerf_width (l.left + 1) (drop (l.left + 1) l.free)) ≡ first_pair l.kerf_width l.free)
