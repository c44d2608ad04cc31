-- The first population, one candidate after the other.
use Prim.Native.Nat.{ℕ, ◌+◌, ◌*◌, ◌≤◌, ◌<◌}
use native.Mathlib.Omega.{arith}
use native.Mathlib.Numerals.{add-one}
use mathlib.Core.Path.{◌≡◌, refl, sym, ap, ◌∙◌, subst}
use mathlib.Core.List.{List, [], ◌∷◌, ◌++◌, map, Memᴰ}
use mathlib.Core.Option.{Option, some}
use lib.ListN.{length, get_or, take}
use lib.Seq.{take-suc, take_all}
use Rattle.lists.specs.Base.{◌>>=◌, to_list, range, concat_map, sort_by}
use Rattle.lists.specs.Elements.{Perm, All}
use Rattle.lists.proofs.Perm.{perm_sym, all_perm, sort_by_perm}
use Rattle.lists.proofs.Sums.{length-map}
use Rattle.lists.proofs.Counts.{range_below}
use Rattle.lists.proofs.Every.{get_mem, map_all}
use Rattle.lists.proofs.Maps.{map-map, concat_map_snoc}
use Rattle.model.specs.declared.BaselineGuillotineHeuristic.{BaselineGuillotineHeuristic}
use Rattle.model.specs.declared.CutInstance.{CutInstance}
use Rattle.model.specs.declared.Rect.{Rect}
use Rattle.model.specs.Types.{cut_key}
use Rattle.model.specs.Candidate.{Candidate, new_candidate, cuts_for_keys, place_cuts}
use Rattle.model.specs.Expand.{ProblemInstance, compare_cut}
use Rattle.model.specs.Search.{SearchNumbers, Seed, initial_seeds, candidate_from_seed, initial_population}
use Rattle.trust.specs.Admitted.{Admitted, Ranged}
use Rattle.trust.proofs.Keys.{cuts_for_keys_known}
use Rattle.project.specs.declared.orders.Head.{Head}
use Rattle.project.specs.Order.{head_of_cut, compare_at, sorted_order, IsOrder}
use Rattle.candidate.specs.declared.Candidate.{Candidate as Words}
use Rattle.candidate.specs.Moves.{new_words}
use Rattle.candidate.specs.Stands.{candidate_in}
use Rattle.project.specs.Problem.{no_cut, cut_in}
use Rattle.candidate.proofs.Start.{new_is}
use Rattle.candidate.specs.Placing.{PlacesCuts}
use Rattle.search.specs.declared.seeds.CandidateSeed.{CandidateSeed}
use Rattle.search.specs.Seeds.{seed_in, InOrder, no_seed, IsSeed}
use Rattle.search.specs.Slots.{slot_words, store_in}
use Rattle.search.specs.Populations.{Stores, OnlySlots}
use Rattle.search.proofs.stored.Populations.{only_none, population_none, standing_none}
use Rattle.search.specs.Improved.{FromSeed}
use Rattle.search.proofs.Passes.{pushed_holds, pushed_within}

-- ---- a candidate from a seed

module _ (inst : ProblemInstance) (a : Admitted inst) (ranged : Ranged inst) (seed : CandidateSeed) (once : Perm seed.cut_order.items (range (length inst.cuts))) where
  abbrev places : List ℕ
  places = seed.cut_order.items

  known : All (λ c. Memᴰ c inst.cuts) (map (cut_in inst) places)
  unfolding cut_in
  known =
      map_all (λ k. k < length inst.cuts) (λ c. Memᴰ c inst.cuts) (cut_in inst) (λ k h. get_mem inst.cuts k no_cut h) places
      (all_perm (λ k. k < length inst.cuts) (perm_sym once) (range_below (length inst.cuts)))

  found : cuts_for_keys inst.cuts (map (λ k. cut_key (cut_in inst k)) places) ≡ some (map (cut_in inst) places)
  found = ap (cuts_for_keys inst.cuts) (sym (map-map cut_key (cut_in inst) places)) ∙ cuts_for_keys_known inst.cuts (map (cut_in inst) places) a.own_panels known

  pub seed_made : (after : List (List Rect)) (r : Words) → PlacesCuts inst seed.heuristic new_words places after r → FromSeed inst seed r
  unfolding candidate_from_seed seed_in
  seed_made after r p =
      let place : List CutInstance → Candidate = place_cuts inst.kerf_width seed.heuristic (new_candidate inst.stock) in
      record {
        words = p.words;
        is = ap (λ (o : Option (List CutInstance)). o >>= λ cuts. some (place cuts)) found
            ∙ ap (λ (c : Candidate). some (place_cuts inst.kerf_width seed.heuristic c (map (cut_in inst) places))) (sym (new_is inst ranged))
            ∙ ap some (sym p.is);
        stands = p.stands;
      }

-- ---- one after the other

module _ (rows : List BaselineGuillotineHeuristic) (inst : ProblemInstance) (n : SearchNumbers) where
  -- the candidates of the first seeds
  unfoldable pub first_ones : ℕ → List Candidate
  first_ones k = concat_map (λ seed. to_list (candidate_from_seed inst seed)) (take k (initial_seeds rows inst.cuts n))

  pub firsts_none : first_ones 0 ≡ []
  unfolding first_ones concat_map
  firsts_none = refl

  pub firsts_more : (k : ℕ) (seed : CandidateSeed) (c : Words) → k < length (initial_seeds rows inst.cuts n) → IsSeed rows inst n k seed → FromSeed inst seed c
      → first_ones (k + 1) ≡ first_ones k ++ (candidate_in inst c ∷ [])
  unfolding first_ones
  firsts_more k seed c h s f =
      let all : List Seed = initial_seeds rows inst.cuts n in
      let made : Seed → List Candidate = λ x. to_list (candidate_from_seed inst x) in
      ap (λ (l : List Seed). concat_map made l) (ap (λ (m : ℕ). take m all) (add-one k) ∙ take-suc all k no_seed h)
      ∙ concat_map_snoc made (take k all) (get_or all k no_seed)
      ∙ ap (λ (l : List Candidate). concat_map made (take k all) ++ l) (ap made (sym s.is) ∙ ap to_list f.is)

  pub firsts_all : (k : ℕ) → length (initial_seeds rows inst.cuts n) ≤ k → first_ones k ≡ initial_population rows inst n
  unfolding first_ones initial_population
  firsts_all k h = ap (concat_map (λ seed. to_list (candidate_from_seed inst seed))) (take_all k (initial_seeds rows inst.cuts n) h)

-- ---- the sorted order

-- what `orders::sorted_cut_order` says of an order of the cuts
pub in_order : (inst : ProblemInstance) (order : List ℕ) → IsOrder (map head_of_cut inst.cuts) order → map (λ k. get_or inst.cuts k no_cut) order ≡ sort_by compare_cut inst.cuts → InOrder inst order
unfolding cut_in sorted_order
in_order inst order e s =
    let heads : List Head = map head_of_cut inst.cuts in
    record {
      once = rw e (subst (λ (m : ℕ). Perm (sorted_order heads (length heads)) (range m)) (length-map head_of_cut inst.cuts) (sort_by_perm (compare_at heads) (range (length heads))));
      sorted = s;
    }

-- ---- in slots

-- the first k are stored
pub record StoredTo (rows : List BaselineGuillotineHeuristic) (inst : ProblemInstance) (n : SearchNumbers) (before : List ℕ) (k : ℕ) (ws : List ℕ) : Type 0 where
  pub holds : Stores inst ws 0 k (first_ones rows inst n k)
  pub only : OnlySlots 0 48 before ws

module _ (rows : List BaselineGuillotineHeuristic) (inst : ProblemInstance) (n : SearchNumbers) where
  pub stored_none : (ws : List ℕ) → StoredTo rows inst n ws 0 ws
  stored_none ws = record { holds = record { is = population_none inst ws 0 ∙ sym (firsts_none rows inst n); stands = standing_none inst ws 0 }; only = only_none 0 48 ws }

  pub stored_step : (before ws after : List ℕ) (k : ℕ) (seed : CandidateSeed) (c : Words) → k < length (initial_seeds rows inst.cuts n) → k < 48 → slot_words * 48 ≤ length ws
      → length inst.cuts ≤ 64 → IsSeed rows inst n k seed → FromSeed inst seed c → after ≡ store_in ws k c → StoredTo rows inst n before k ws → StoredTo rows inst n before (k + 1) after
  stored_step before ws after k seed c h most room few s f e st =
      let z : k ≡ 0 + k = omega arith in
      let at : after ≡ store_in ws (0 + k) c = e ∙ ap (λ (slot : ℕ). store_in ws slot c) z in
      let fits : slot_words * (0 + k) + slot_words ≤ length ws = omega arith in
      record {
        holds = subst (Stores inst after 0 (k + 1)) (sym (firsts_more rows inst n k seed c h s f)) (pushed_holds inst ws after 0 k c f.stands fits few at (first_ones rows inst n k) st.holds);
        only = pushed_within inst ws after 0 k c f.stands fits few at before 0 48 (omega arith) (omega arith) st.only;
      }
