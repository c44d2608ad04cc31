-- How many candidates there are at any time: at most 32 before and after a generation, and at most 48 within one, where neighbours have had a child.
use Prim.Native.Nat.{ℕ, suc, ◌+◌, ◌-◌, ◌*◌, ◌≤◌}
use native.Mathlib.Nat.{le_trans}
use native.Mathlib.Omega.{arith}
use mathlib.Core.Path.{◌≡◌}
use mathlib.Core.Bool.{Bool, true, false}
use mathlib.Core.List.{List, [], ◌∷◌, map}
use lib.Dec.{lit≤}
use lib.ListN.{length, length-append}
use Rattle.lists.specs.Base.{to_list, range}
use Rattle.lists.proofs.Sums.{length-map, length_count_from, at_most_one, length_options}
use Rattle.model.specs.declared.OptimizerEffort.{OptimizerEffort}
use Rattle.model.specs.declared.BaselineGuillotineHeuristic.{BaselineGuillotineHeuristic}
use Rattle.model.specs.declared.CutInstance.{CutInstance}
use Rattle.model.specs.Candidate.{Candidate, reinsert_unused_first_fit, compact_worst_bin}
use Rattle.model.specs.Expand.{ProblemInstance}
use Rattle.model.specs.Search.{SearchNumbers, search_numbers, heuristic_variants, default_heuristic, other_heuristics, sorted_seed, variant_seeds, shuffled_seed, initial_seeds, candidate_from_seed, initial_population, child_of, children, crossover_population, repair_population, compact_population, run_generations}
use Rattle.trust.specs.Limits.{most_population, most_candidates}
use Rattle.trust.proofs.Population.{generations_length}

-- ---- the first population

variants_length : (cuts : List CutInstance) (rows : List BaselineGuillotineHeuristic) (b : Bool) → length (variant_seeds cuts rows b) ≤ length rows - 1
unfolding variant_seeds other_heuristics
variants_length cuts rows false = omega arith
variants_length cuts [] true = omega arith
variants_length cuts (row ∷ rows) true = omega (arith, length-map (sorted_seed cuts) rows)

seeds_length : (rows : List BaselineGuillotineHeuristic) (cuts : List CutInstance) (n : SearchNumbers) → length (initial_seeds rows cuts n) ≤ suc (length rows - 1 + n.shuffles)
unfolding initial_seeds
seeds_length rows cuts n =
    let shuffled = map (shuffled_seed cuts (default_heuristic rows) n) (range n.shuffles) in
    omega (
      arith,
      length-append (variant_seeds cuts rows n.variants) shuffled,
      variants_length cuts rows n.variants,
      length-map (shuffled_seed cuts (default_heuristic rows) n) (range n.shuffles),
      length_count_from 0 n.shuffles,
    )

pub initial_length : (rows : List BaselineGuillotineHeuristic) (inst : ProblemInstance) (n : SearchNumbers) → length (initial_population rows inst n) ≤ suc (length rows - 1 + n.shuffles)
unfolding initial_population
initial_length rows inst n = le_trans (length_options (candidate_from_seed inst) (initial_seeds rows inst.cuts n)) (seeds_length rows inst.cuts n)

-- ---- within a generation

pub children_length : (inst : ProblemInstance) (row : BaselineGuillotineHeuristic) (population : List Candidate) → 2 * length (children inst row population) ≤ length population
unfolding children
children_length inst row [] = omega arith
children_length inst row (left ∷ []) = omega arith
children_length inst row (left ∷ right ∷ rest) =
    omega (arith, length-append (to_list (child_of inst row left right)) (children inst row rest), at_most_one (child_of inst row left right), children_length inst row rest)

pub crossover_length : (inst : ProblemInstance) (row : BaselineGuillotineHeuristic) (population : List Candidate)
    → 2 * length (crossover_population inst row population) ≤ 3 * length population
unfolding crossover_population
crossover_length inst row population = omega (arith, length-append population (children inst row population), children_length inst row population)

pub repair_length : (inst : ProblemInstance) (row : BaselineGuillotineHeuristic) (population : List Candidate) → length (repair_population inst row population) ≡ length population
unfolding repair_population
repair_length inst row population = length-map (reinsert_unused_first_fit inst.kerf_width row) population

pub compact_length : (inst : ProblemInstance) (population : List Candidate) → length (compact_population inst population) ≡ length population
unfolding compact_population
compact_length inst population = length-map (compact_worst_bin inst.cuts) population

-- ---- for numbers within these

pub record SearchWithin (rows : List BaselineGuillotineHeuristic) (n : SearchNumbers) : Type 0 where
  pub few : length rows ≤ 8
  pub shuffles : n.shuffles ≤ 24
  pub generations : n.generations ≤ 4
  pub survivors : n.survivors ≤ most_population

-- those of every effort with the source's rows
pub source_within : (effort : OptimizerEffort) → SearchWithin heuristic_variants (search_numbers effort)
unfolding heuristic_variants search_numbers
source_within OptimizerEffort.Fast = record { few = lit≤ tt; shuffles = lit≤ tt; generations = lit≤ tt; survivors = lit≤ tt }
source_within OptimizerEffort.Balanced = record { few = lit≤ tt; shuffles = lit≤ tt; generations = lit≤ tt; survivors = lit≤ tt }
source_within OptimizerEffort.Thorough = record { few = lit≤ tt; shuffles = lit≤ tt; generations = lit≤ tt; survivors = lit≤ tt }

module _ (inst : ProblemInstance) (rows : List BaselineGuillotineHeuristic) (n : SearchNumbers) (w : SearchWithin rows n) where
  pub initial_most : length (initial_population rows inst n) ≤ most_population
  initial_most = omega (arith, initial_length rows inst n, w.few)

  pub population_most : (rounds : ℕ) → length (run_generations inst (default_heuristic rows) n.survivors rounds (initial_population rows inst n)) ≤ most_population
  population_most rounds = generations_length inst (default_heuristic rows) n.survivors rounds most_population (initial_population rows inst n) initial_most w.survivors

pub crossover_most : (inst : ProblemInstance) (row : BaselineGuillotineHeuristic) (population : List Candidate) → length population ≤ most_population
    → length (crossover_population inst row population) ≤ most_candidates
crossover_most inst row population h = omega (arith, crossover_length inst row population)
