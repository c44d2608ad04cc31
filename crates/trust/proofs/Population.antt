-- How large a population grows.
use Prim.Native.Nat.{ℕ, zero, suc, ◌≤◌}
use native.Mathlib.Nat.{le_trans, min-le_left}
use mathlib.Core.List.{List}
use lib.ListN.{length, length-take}
use Rattle.model.specs.declared.BaselineGuillotineHeuristic.{BaselineGuillotineHeuristic}
use Rattle.model.specs.Candidate.{Candidate}
use Rattle.model.specs.Expand.{ProblemInstance}
use Rattle.model.specs.Search.{survival_generation, generation, run_generations}

pub survivors_length : (inst : ProblemInstance) (survivors : ℕ) (population : List Candidate) → length (survival_generation inst survivors population) ≤ survivors
unfolding survival_generation
survivors_length inst survivors population = rw length-take (min-le_left _ _)

pub generations_length : (inst : ProblemInstance) (row : BaselineGuillotineHeuristic) (survivors n m : ℕ) (population : List Candidate) → length population ≤ m → survivors ≤ m
    → length (run_generations inst row survivors n population) ≤ m
unfolding run_generations generation
generations_length inst row survivors zero m population h k = h
generations_length inst row survivors (suc n) m population h k =
    generations_length inst row survivors n m (generation inst row survivors population) (le_trans (survivors_length inst survivors _) k) k
