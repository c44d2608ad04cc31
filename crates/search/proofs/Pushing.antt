-- Children behind their parents, two by two.
use Rattle.std.specs.Prelude.{Option as Child, None, Some}
use Prim.Native.Nat.{ℕ, suc, ◌+◌, ◌*◌, ◌≤◌, ◌<◌}
use native.Mathlib.Omega.{arith}
use native.Mathlib.Numerals.{add-one}
use mathlib.Core.Path.{◌≡◌, refl, sym, ap, ap₂, ◌∙◌, subst}
use mathlib.Core.Logic.{inl}
use mathlib.Core.List.{List, [], ◌∷◌, ◌++◌, append-nil, append_assoc}
use mathlib.Core.Option.{Option}
use lib.ListN.{length, drop, length-drop}
use lib.Seq.{drop-cons}
use Rattle.lists.specs.Base.{to_list}
use Rattle.model.specs.declared.BaselineGuillotineHeuristic.{BaselineGuillotineHeuristic}
use Rattle.model.specs.Candidate.{Candidate, new_candidate}
use Rattle.model.specs.Expand.{ProblemInstance}
use Rattle.model.specs.Search.{child_of, children, crossover_population}
use Rattle.candidate.specs.declared.Candidate.{Candidate as Words}
use Rattle.candidate.specs.Stands.{candidate_in}
use Rattle.search.specs.Slots.{slot_words, slot_of}
use Rattle.search.specs.Populations.{words_at, StandsAt, candidate_at, population_in, AllStand, Stores, OnlySlots}
use Rattle.search.proofs.stored.Populations.{slot_kept, only_wider, only_none, only_then, same_slot, stands_as, standing_at, population_length, population_at, pushed_only}
use Rattle.candidate.specs.Children.{IsChild}
use Rattle.search.proofs.Passes.{pushed_holds}
use Rattle.search.specs.Regions.{PushesChild}

-- ---- one child

-- what a pushed child does to the population before it
record Pushed (inst : ProblemInstance) (o : Option Candidate) (base size : ℕ) (before after : List ℕ) (r : ℕ) : Type 0 where
  pub holds : (cs : List Candidate) → Stores inst before base size cs → Stores inst after base r (cs ++ to_list o)
  pub only : OnlySlots (base + size) (base + size + 1) before after
  pub least : size ≤ r
  pub most : r ≤ size + 1

pushed : (inst : ProblemInstance) (o : Option Candidate) (base size : ℕ) (child : Child Words) (ws after : List ℕ) (r : ℕ) → length inst.cuts ≤ 64
    → slot_words * (base + size) + slot_words ≤ length ws → IsChild inst o child → PushesChild base size child ws after r → Pushed inst o base size ws after r
pushed inst o base size None ws after r few room k p =
    record {
      holds = λ cs h. subst (λ (n : ℕ). Stores inst after base n (cs ++ to_list o)) (sym p.1)
          (subst (λ (l : List ℕ). Stores inst l base size (cs ++ to_list o)) (sym p.0)
          (subst (Stores inst ws base size) (sym (ap (λ (q : Option Candidate). cs ++ to_list q) k ∙ append-nil cs)) h));
      only = subst (OnlySlots (base + size) (base + size + 1) ws) (sym p.0) (only_none (base + size) (base + size + 1) ws);
      least = omega (arith, p.1);
      most = omega (arith, p.1);
    }
pushed inst o base size (Some c) ws after r few room k p =
    record {
      holds = λ cs h. subst (λ (n : ℕ). Stores inst after base n (cs ++ to_list o)) (sym p.1)
          (subst (Stores inst after base (size + 1)) (ap (λ (q : Option Candidate). cs ++ to_list q) (sym k.is)) (pushed_holds inst ws after base size c k.stands room few p.0 cs h));
      only = pushed_only inst ws after base size c k.stands room few p.0;
      least = omega (arith, p.1);
      most = omega (arith, p.1);
    }

-- ---- pair by pair

-- the pairs before i have had their children
pub record CrossedTo (inst : ProblemInstance) (h : BaselineGuillotineHeuristic) (before : List ℕ) (base count i size : ℕ) (ws : List ℕ) : Type 0 where
  pub done : List Candidate
  pub holds : Stores inst ws base size (population_in inst before base count ++ done)
  pub rest : done ++ children inst h (drop i (population_in inst before base count)) ≡ children inst h (population_in inst before base count)
  pub only : OnlySlots (base + count) (base + 48) before ws
  pub least : count ≤ size
  pub most : 2 * size ≤ 2 * count + i

pub crossed_none : (inst : ProblemInstance) (h : BaselineGuillotineHeuristic) (ws : List ℕ) (base count : ℕ) → AllStand inst ws base count → CrossedTo inst h ws base count 0 count ws
crossed_none inst h ws base count s =
    record {
      done = [];
      holds = record { is = sym (append-nil (population_in inst ws base count)); stands = s };
      rest = refl;
      only = only_none (base + count) (base + 48) ws;
      least = omega arith;
      most = omega arith;
    }

module _ (inst : ProblemInstance) (h : BaselineGuillotineHeuristic) (before ws : List ℕ) (base count i size : ℕ) (c : CrossedTo inst h before base count i size ws) where
  -- the parents are as they were
  module _ (k slot : ℕ) (at : slot ≡ base + k) (l : k < count) where
    parent_slot : slot_of ws (base + k) ≡ slot_of before (base + k)
    parent_slot = slot_kept (base + count) (base + 48) before ws c.only (base + k) (inl (omega arith))

    pub parent_stands : AllStand inst before base count → StandsAt inst ws slot
    parent_stands s = subst (StandsAt inst ws) (sym at) (stands_as inst before ws (base + k) (base + k) parent_slot (standing_at inst before base count k s l))

    pub parent_loaded : (w : Words) → w ≡ words_at inst ws slot → w ≡ words_at inst before (base + k)
    parent_loaded w e = e ∙ ap (words_at inst ws) at ∙ same_slot inst before ws (base + k) parent_slot

  abbrev parents : List Candidate
  parents = population_in inst before base count

  pair : i + 1 < count → drop i parents ≡ candidate_at inst before (base + i) ∷ candidate_at inst before (base + (i + 1)) ∷ drop (i + 2) parents
  pair l =
      let d : Candidate = new_candidate [] in
      let size : length parents ≡ count = population_length inst before base count in
      let two : suc (i + 1) ≡ i + 2 = omega arith in
      drop-cons parents i d (omega arith)
      ∙ ap₂ {C = List Candidate} (λ x r. x ∷ r) (population_at inst before base count i d (omega arith))
      (ap (λ (m : ℕ). drop m parents) (sym (add-one i))
      ∙ drop-cons parents (i + 1) d (omega arith)
      ∙ ap₂ {C = List Candidate} (λ x r. x ∷ r) (population_at inst before base count (i + 1) d (omega arith)) (ap (λ (m : ℕ). drop m parents) two))

  pub crossed_step : (after : List ℕ) (left right : Words) (child : Child Words) (r : ℕ) → i + 1 < count → count ≤ 32 → length inst.cuts ≤ 64
      → slot_words * (base + size) + slot_words ≤ length ws → left ≡ words_at inst before (base + i) → right ≡ words_at inst before (base + (i + 1)) → IsChild inst (child_of inst h (candidate_in inst left) (candidate_in inst right)) child
      → PushesChild base size child ws after r → CrossedTo inst h before base count (i + 2) r after
  unfolding children candidate_at
  crossed_step after left right child r here few cuts room el er k p =
      let o : Option Candidate = child_of inst h (candidate_in inst left) (candidate_in inst right) in
      let same : o ≡ child_of inst h (candidate_at inst before (base + i)) (candidate_at inst before (base + (i + 1))) = ap₂ (λ (x y : Words). child_of inst h (candidate_in inst x) (candidate_in inst y)) el er in
      let next : children inst h (drop i parents) ≡ to_list o ++ children inst h (drop (i + 2) parents) =
      ap (children inst h) (pair here) ∙ ap (λ (q : Option Candidate). to_list q ++ children inst h (drop (i + 2) parents)) (sym same)
      in
      let q = pushed inst o base size child ws after r cuts room k p in
      record {
        done = c.done ++ to_list o;
        holds = subst (Stores inst after base r) (append_assoc parents c.done (to_list o)) (q.holds (parents ++ c.done) c.holds);
        rest = append_assoc c.done (to_list o) (children inst h (drop (i + 2) parents)) ∙ ap (λ (l : List Candidate). c.done ++ l) (sym next) ∙ c.rest;
        only = only_then (base + count) (base + 48) before ws after c.only
            (only_wider (base + size) (base + size + 1) ws after q.only (base + count) (base + 48) (omega (arith, c.least)) (omega (arith, c.most)));
        least = omega (arith, c.least, q.least);
        most = omega (arith, c.most, q.most);
      }

  -- no pair is left
  short : (l : List Candidate) → length l ≤ 1 → children inst h l ≡ []
  unfolding children
  short [] k = refl
  short (x ∷ []) k = refl
  short (x ∷ y ∷ l) k = absurd (omega arith)

  pub crossed_all : count ≤ i + 1 → Stores inst ws base size (crossover_population inst h parents)
  unfolding crossover_population
  crossed_all l =
      let none_left : children inst h (drop i parents) ≡ [] = short (drop i parents) (omega (arith, length-drop i parents, population_length inst before base count)) in
      let all : c.done ≡ children inst h parents = sym (append-nil c.done) ∙ ap (λ (r : List Candidate). c.done ++ r) (sym none_left) ∙ c.rest in
      subst (λ (d : List Candidate). Stores inst ws base size (parents ++ d)) all c.holds
