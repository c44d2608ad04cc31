-- The loop's invariant: what is left, added to the two sums, gives the whole sums.
use Rattle.std.proofs.Common.{◌≡◌, ◌+◌, drop}
use Rattle.model.specs.Fitness.{positive_zero}
use Rattle.candidate.specs.Areas.{add_shares, board_areas}
use Rattle.candidate.proofs.fitness.candidate_fitness.Given as goal

abbrev pub invariant-loop-sheet : goal.invariant-loop-sheet
invariant-loop-sheet l = record {
  total : l.total + board_areas (drop l.sheet-index l.sheets) ≡ board_areas l.sheets;
  shares : add_shares l.weighted (drop l.sheet-index l.sheets) ≡ add_shares positive_zero l.sheets;
}
