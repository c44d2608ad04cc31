-- What a child, a repair and a compaction keep of a candidate, every candidate of every later population has, and the winner.
use Prim.Native.Nat.{ℕ, zero, suc}
use mathlib.Core.Path.{◌≡◌}
use mathlib.Core.List.{List, [], ◌∷◌}
use mathlib.Core.Option.{some}
use lib.Dec.{T}
use Rattle.lists.specs.Base.{to_list, retain}
use Rattle.lists.specs.Elements.{All}
use Rattle.model.specs.declared.BaselineGuillotineHeuristic.{BaselineGuillotineHeuristic}
use Rattle.model.specs.Candidate.{Candidate, reinsert_unused_first_fit, compact_worst_bin, is_valid}
use Rattle.model.specs.Expand.{ProblemInstance}
use Rattle.model.specs.Search.{child_of, children, crossover_population, repair_population, compact_population, survival_generation, generation, run_generations, select_best_valid}
use Rattle.lists.proofs.Perm.{perm_sym, sort_by_perm, all_map, all_append, all_perm}
use Rattle.lists.proofs.Kept.{retain_sub}
use Rattle.lists.proofs.Every.{all_take, map_all}
use Rattle.trust.proofs.Placing.{first_best_all}

module _ (Q : Candidate → Type 0) (inst : ProblemInstance) (row : BaselineGuillotineHeuristic)
    (crossed : (left right : Candidate) → Q left → Q right → All Q (to_list (child_of inst row left right)))
    (repaired : (c : Candidate) → Q c → Q (reinsert_unused_first_fit inst.kerf_width row c))
    (compacted : (c : Candidate) → Q c → Q (compact_worst_bin inst.cuts c)) where
  children_all : (population : List Candidate) → All Q population → All Q (children inst row population)
  unfolding children
  children_all [] h = tt
  children_all (left ∷ []) h = tt
  children_all (left ∷ right ∷ rest) h =
      all_append Q (to_list (child_of inst row left right)) (children inst row rest) (crossed left right h.0 h.1.0) (children_all rest h.1.1)

  pub crossover_all : (population : List Candidate) → All Q population → All Q (crossover_population inst row population)
  unfolding crossover_population
  crossover_all population h = all_append Q population (children inst row population) h (children_all population h)

  pub repair_all : (population : List Candidate) → All Q population → All Q (repair_population inst row population)
  unfolding repair_population
  repair_all population h = map_all Q Q _ repaired population h

  pub compact_all : (population : List Candidate) → All Q population → All Q (compact_population inst population)
  unfolding compact_population
  compact_all population h = map_all Q Q _ compacted population h

  -- the survivors are valid too
  pub survival_all : (survivors : ℕ) (population : List Candidate) → All Q population → All (λ c. Q c × T (is_valid inst.cuts c)) (survival_generation inst survivors population)
  unfolding survival_generation
  survival_all survivors population h =
      all_take (λ c. Q c × T (is_valid inst.cuts c)) survivors _
      (all_perm (λ c. Q c × T (is_valid inst.cuts c)) (perm_sym (sort_by_perm _ (retain (is_valid inst.cuts) population))) (retain_sub Q (is_valid inst.cuts) population h))

  pub generation_all : (survivors : ℕ) (population : List Candidate) → All Q population → All (λ c. Q c × T (is_valid inst.cuts c)) (generation inst row survivors population)
  unfolding generation
  generation_all survivors population h =
      let first = crossover_population inst row population in
      let second = repair_population inst row first in
      let third = compact_population inst second in
      survival_all survivors (repair_population inst row third) (repair_all third (compact_all second (repair_all first (crossover_all population h))))

  pub generations_all : (survivors n : ℕ) (population : List Candidate) → All Q population → All Q (run_generations inst row survivors n population)
  unfolding run_generations
  generations_all survivors zero population h = h
  generations_all survivors (suc n) population h =
      let next = generation inst row survivors population in
      generations_all survivors n next (all_map (λ c. Q c × T (is_valid inst.cuts c)) Q (λ c k. k.0) next (generation_all survivors population h))

  pub best_all : (population : List Candidate) (c : Candidate) → All Q population → select_best_valid inst population ≡ some c → Q c × T (is_valid inst.cuts c)
  unfolding select_best_valid
  best_all population c h e =
      first_best_all (λ d. Q d × T (is_valid inst.cuts d)) _ (retain (is_valid inst.cuts) population) c (retain_sub Q (is_valid inst.cuts) population h) e
