-- The rounds of a search, and the choice after the last.
use Prim.Native.Nat.{ℕ, suc, ◌+◌, ◌-◌, ◌*◌, ◌≤◌, ◌<◌}
use native.Mathlib.Omega.{arith}
use mathlib.Core.Path.{◌≡◌, refl, sym, ap, ◌∙◌, subst}
use mathlib.Core.Logic.{inl, inr}
use mathlib.Core.List.{List, map}
use lib.ListN.{length}
use Rattle.model.specs.declared.BaselineGuillotineHeuristic.{BaselineGuillotineHeuristic}
use Rattle.model.specs.Candidate.{Candidate}
use Rattle.model.specs.Expand.{ProblemInstance}
use Rattle.model.specs.Search.{SearchNumbers, default_heuristic, initial_population, crossover_population, survival_generation, generation, run_generations, select_best_valid, winner}
use Rattle.trust.proofs.Population.{survivors_length}
use Rattle.search.specs.Slots.{slot_words}
use Rattle.search.specs.Populations.{population_in, AllStand, Stores, OnlySlots}
use Rattle.search.proofs.stored.Populations.{only_then, population_length}
use Rattle.search.specs.Ranks.{RegionsApart}
use Rattle.search.specs.Improved.{improved}
use Rattle.search.proofs.Passes.{passes_are}
use Rattle.search.specs.Regions.{Region, behind_slots}

-- the other region
pub other : (base : ℕ) → Region base → Region (48 - base)
other base (inl e) = inr (omega arith)
other base (inr e) = inl (omega arith)

pub regions : (base room : ℕ) → Region base → slot_words * 96 ≤ room → RegionsApart room base (48 - base)
regions base room (inl e) h = (inl (omega arith), omega arith, omega arith)
regions base room (inr e) h = (inr (omega arith), omega arith, omega arith)

pub region_most : (base : ℕ) → Region base → base ≤ 48
region_most base (inl e) = omega arith
region_most base (inr e) = omega arith

-- crossover, improvement and survival are a generation
module _ (inst : ProblemInstance) (h : BaselineGuillotineHeuristic) (survivors : ℕ) where
  pub generation_is : (population crossed better : List Candidate) → crossed ≡ crossover_population inst h population → better ≡ map (improved inst h) crossed
      → survival_generation inst survivors better ≡ generation inst h survivors population
  unfolding generation
  generation_is population crossed better e f = ap (survival_generation inst survivors) (f ∙ ap (map (improved inst h)) e ∙ passes_are inst h (crossover_population inst h population))

  generation_most : (population : List Candidate) → length (generation inst h survivors population) ≤ survivors
  unfolding generation
  generation_most population = survivors_length inst survivors _

  -- what is left of the rounds gives what all of them give
  pub record RunTo (rounds : ℕ) (first : List Candidate) (before : List ℕ) (round base count : ℕ) (ws : List ℕ) : Type 0 where
    pub region : Region base
    pub few : count ≤ 32
    pub stands : AllStand inst ws base count
    pub rest : run_generations inst h survivors (rounds - round) (population_in inst ws base count) ≡ run_generations inst h survivors rounds first
    pub only : OnlySlots 0 96 before ws

  pub run_none : (rounds : ℕ) (first : List Candidate) (before ws : List ℕ) (count : ℕ) → Stores inst ws 0 count first → count ≤ 32 → OnlySlots 0 96 before ws → RunTo rounds first before 0 0 count ws
  run_none rounds first before ws count k few o =
      let z : rounds - 0 ≡ rounds = omega arith in
      record {
        region = inl refl;
        few = few;
        stands = k.stands;
        rest = ap (λ (m : ℕ). run_generations inst h survivors m (population_in inst ws 0 count)) z ∙ ap (run_generations inst h survivors rounds) k.is;
        only = o;
      }

  module _ (rounds : ℕ) (first : List Candidate) (before : List ℕ) (round base count : ℕ) (ws : List ℕ) (u : RunTo rounds first before round base count ws) where
    pub run_step : (after : List ℕ) (to r : ℕ) → to ≡ 48 - base → round < rounds → survivors ≤ 32 → Stores inst after to r (generation inst h survivors (population_in inst ws base count)) → OnlySlots 0 96 ws after
        → RunTo rounds first before (round + 1) to r after
    unfolding run_generations
    run_step after to r there here few k o =
        let next : rounds - round ≡ suc (rounds - (round + 1)) = omega arith in
        let population : List Candidate = population_in inst ws base count in
        record {
          region = subst Region (sym there) (other base u.region);
          few = omega (arith, population_length inst after to r, ap length k.is, generation_most population);
          stands = k.stands;
          rest = ap (run_generations inst h survivors (rounds - (round + 1))) k.is
              ∙ ap (λ (m : ℕ). run_generations inst h survivors m population) (sym next)
              ∙ u.rest;
          only = only_then 0 96 before ws after u.only o;
        }

    pub run_all : rounds ≤ round → population_in inst ws base count ≡ run_generations inst h survivors rounds first
    unfolding run_generations
    run_all l = let z : rounds - round ≡ 0 = omega arith in ap (λ (m : ℕ). run_generations inst h survivors m (population_in inst ws base count)) (sym z) ∙ u.rest

pub winner_is : (rows : List BaselineGuillotineHeuristic) (inst : ProblemInstance) (n : SearchNumbers) (h : BaselineGuillotineHeuristic) (population : List Candidate) → default_heuristic rows ≡ h
    → population ≡ run_generations inst h n.survivors n.generations (initial_population rows inst n) → select_best_valid inst population ≡ winner rows inst n
unfolding winner
winner_is rows inst n h population e f =
    ap (select_best_valid inst) (f ∙ ap (λ (row : BaselineGuillotineHeuristic). run_generations inst row n.survivors n.generations (initial_population rows inst n)) (sym e))

pub behind_kept : (before after : List ℕ) → OnlySlots 0 96 before after → behind_slots after ≡ behind_slots before
unfolding behind_slots
behind_kept before after o = o.behind_them
