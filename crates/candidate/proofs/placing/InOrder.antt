-- Cuts placed one after the other: what is left to place, from here, gives what the whole order gives.
use Prim.Native.Nat.{ℕ, ◌+◌, ◌≤◌, ◌<◌}
use mathlib.Core.Path.{◌≡◌, refl, sym, ap, ◌∙◌, subst}
use mathlib.Core.List.{List, [], ◌∷◌, map}
use lib.ListN.{length, get_or, drop, drop_of_length-le}
use Rattle.lists.specs.Base.{foldl}
use Rattle.lists.proofs.Arrays.{drop_next}
use Rattle.model.specs.declared.BaselineGuillotineHeuristic.{BaselineGuillotineHeuristic}
use Rattle.model.specs.declared.CutInstance.{CutInstance}
use Rattle.model.specs.declared.Rect.{Rect}
use Rattle.model.specs.Candidate.{Candidate, place_cut_first_fit, place_cuts}
use Rattle.model.specs.Expand.{ProblemInstance}
use Rattle.candidate.specs.declared.Candidate.{Candidate as Words}
use Rattle.candidate.specs.Moves.{with_cut, with_cuts}
use Rattle.candidate.specs.Stands.{Stands, candidate_in}
use Rattle.project.specs.Problem.{cut_in}
use Rattle.candidate.specs.Bins.{Shown}
use Rattle.candidate.specs.Placing.{PlacesCut, PlacesCuts}

place_cuts_next : (kerf : ℕ) (h : BaselineGuillotineHeuristic) (c : Candidate) (cut : CutInstance) (rest : List CutInstance)
    → place_cuts kerf h c (cut ∷ rest) ≡ place_cuts kerf h (place_cut_first_fit kerf h c cut) rest
unfolding place_cuts foldl
place_cuts_next kerf h c cut rest = refl

place_cuts_none : (kerf : ℕ) (h : BaselineGuillotineHeuristic) (c : Candidate) → place_cuts kerf h c [] ≡ c
unfolding place_cuts foldl
place_cuts_none kerf h c = refl

-- the same of words
with_cuts_next : (inst : ProblemInstance) (h : BaselineGuillotineHeuristic) (k : Words) (cut : ℕ) (rest : List ℕ) → with_cuts inst h k (cut ∷ rest) ≡ with_cuts inst h (with_cut inst h k cut) rest
unfolding with_cuts foldl
with_cuts_next inst h k cut rest = refl

with_cuts_none : (inst : ProblemInstance) (h : BaselineGuillotineHeuristic) (k : Words) → with_cuts inst h k [] ≡ k
unfolding with_cuts foldl
with_cuts_none inst h k = refl

module _ (inst : ProblemInstance) (h : BaselineGuillotineHeuristic) (k : Words) (order : List ℕ) where
  pub record Placing (free : List (List Rect)) (now : Words) (i : ℕ) : Type 0 where
    pub words : with_cuts inst h now (drop i order) ≡ with_cuts inst h k order
    pub is : place_cuts inst.kerf_width h (candidate_in inst now) (map (cut_in inst) (drop i order)) ≡ place_cuts inst.kerf_width h (candidate_in inst k) (map (cut_in inst) order)
    pub stands : Stands inst (drop i order) now
    pub shown : Shown inst free now

  pub placing_none : (free : List (List Rect)) → Stands inst order k → Shown inst free k → Placing free k 0
  placing_none free st sh = record { words = refl; is = refl; stands = st; shown = sh }

  module _ (free : List (List Rect)) (now : Words) (i : ℕ) (p : Placing free now i) where
    stands_here : i < length order → Stands inst (get_or order i 0 ∷ drop (i + 1) order) now
    stands_here inside = subst (λ (l : List ℕ). Stands inst l now) (drop_next order i 0 inside) p.stands

    pub placing_next : i < length order → (after : List (List Rect)) (r : Words) → PlacesCut inst h now (get_or order i 0) after r → Placing after r (i + 1)
    placing_next inside after r q =
        record {
          words =
              ap (λ (w : Words). with_cuts inst h w (drop (i + 1) order)) q.words
              ∙ sym (with_cuts_next inst h now (get_or order i 0) (drop (i + 1) order))
              ∙ ap (with_cuts inst h now) (sym (drop_next order i 0 inside))
              ∙ p.words;
          is =
              ap (λ (c : Candidate). place_cuts inst.kerf_width h c (map (cut_in inst) (drop (i + 1) order))) q.is
              ∙ sym (place_cuts_next inst.kerf_width h (candidate_in inst now) (cut_in inst (get_or order i 0)) (map (cut_in inst) (drop (i + 1) order)))
              ∙ ap (λ (l : List ℕ). place_cuts inst.kerf_width h (candidate_in inst now) (map (cut_in inst) l)) (sym (drop_next order i 0 inside))
              ∙ p.is;
          stands = q.stands (drop (i + 1) order) (stands_here inside);
          shown = q.shown;
        }

    pub placing_done : length order ≤ i → PlacesCuts inst h k order free now
    placing_done past =
        let none_left : drop i order ≡ [] = drop_of_length-le order past in
        record {
          words = sym (with_cuts_none inst h now) ∙ ap (with_cuts inst h now) (sym none_left) ∙ p.words;
          is =
              sym (place_cuts_none inst.kerf_width h (candidate_in inst now))
              ∙ ap (λ (l : List ℕ). place_cuts inst.kerf_width h (candidate_in inst now) (map (cut_in inst) l)) (sym none_left)
              ∙ p.is;
          stands = subst (λ (l : List ℕ). Stands inst l now) none_left p.stands;
          shown = p.shown;
        }
