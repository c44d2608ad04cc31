-- When the workspace is cleared, by the file: exactly where no check refuses it and it asks for a panel.
use Rattle.std.specs.Prelude.{if◌then◌else◌}
use Prim.Native.Nat.{ℕ, suc}
use native.Mathlib.Omega.{arith}
use mathlib.Core.Path.{◌≡◌, refl, sym, ap, ◌∙◌, subst}
use mathlib.Core.Logic.{inl, inr}
use mathlib.Core.Bool.{Bool, true, false, not, ◌&&◌, ◌||◌, true≢false, false≢true}
use mathlib.Core.List.{List, [], ◌∷◌}
use mathlib.Core.Option.{Option, none, some, some-injective, none-ne-some}
use lib.Dec.{T, eqb}
use lib.ListN.{length}
use borrow.Author.Tests.{ne_eqb, eqb-true}
use Rattle.lists.specs.Base.{◌<|>◌, is_empty, is_some, concat_map}
use Rattle.lists.specs.Elements.{Perm}
use Rattle.model.specs.declared.BaselineGuillotineHeuristic.{BaselineGuillotineHeuristic}
use Rattle.model.specs.declared.LayoutKind.{LayoutKind}
use Rattle.model.specs.declared.CutInstance.{CutInstance}
use Rattle.model.specs.Types.{effort_of}
use Rattle.model.specs.Sheet.{GuillotineSheet}
use Rattle.model.specs.Candidate.{Candidate}
use Rattle.model.specs.Project.{project_of}
use Rattle.model.specs.Refusal.{first_that_applies, file_refusal}
use Rattle.model.specs.Expand.{ProblemInstance}
use Rattle.model.specs.Search.{SearchNumbers, search_numbers, heuristic_variants, winner}
use Rattle.model.specs.Plan.{plan_words}
use Rattle.model.specs.Answer.{Answer, plan, refused, prefilter, solution, searched, optimized, answer_with, answer}
use Rattle.model.specs.Outcome.{is_late, clears}
use Rattle.lists.proofs.Perm.{length_perm}
use Rattle.trust.specs.Proper.{placed_cuts}
use Rattle.trust.proofs.Truth.{and_split}
use Rattle.trust.proofs.Answer.{instance_of, FromWinner, not_refused, plan_from_winner}
use Rattle.trust.proofs.Numbers.{is_number, early_not_late, file_early}

-- ---- a file that a check refuses, and one without panels

pub file_kept : (f : List ℕ) (n : ℕ) → file_refusal f ≡ some n → clears (answer f) ≡ false
unfolding answer answer_with clears
file_kept f n e = rw (e, answer_with) (early_not_late n (file_early f n e))

pub empty_kept : (f : List ℕ) → file_refusal f ≡ none → (instance_of f).cuts ≡ [] → clears (answer f) ≡ false
unfolding answer answer_with optimized clears plan_words
empty_kept f e z = rw (e, answer_with, z)

-- ---- a search

pub late_prefilter : (inst : ProblemInstance) (k : ℕ) → prefilter inst ≡ some k → is_late k ≡ true
unfolding prefilter first_that_applies is_late
late_prefilter inst k e = go _ _ e
  where
    go : (a b : Bool) → ((if a then some 15 else none) <|> ((if b then some 16 else none) <|> none)) ≡ some k → is_late k ≡ true
    go true b h = ap is_late (sym (some-injective 15 k h))
    go false true h = ap is_late (sym (some-injective 16 k h))
    go false false h = absurd (none-ne-some k h)

late_is_number : (k : ℕ) → is_late k ≡ true → T (is_number k)
unfolding is_late
late_is_number k e = go (eqb k 15) (eqb k 16) (eqb k 17) refl refl refl e
  where
    digits : (n : ℕ) → T (is_number n) → k ≡ n → T (is_number k)
    digits n h f = subst (λ (m : ℕ). T (is_number m)) (sym f) h

    go : (a b c : Bool) → eqb k 15 ≡ a → eqb k 16 ≡ b → eqb k 17 ≡ c → (a || b || c) ≡ true → T (is_number k)
    go true b c f g h i = digits 15 tt (eqb-true k 15 f)
    go false true c f g h i = digits 16 tt (eqb-true k 16 g)
    go false false true f g h i = digits 17 tt (eqb-true k 17 h)
    go false false false f g h i = absurd (false≢true i)

pub late_number : (inst : ProblemInstance) (k : ℕ) → prefilter inst ≡ some k → T (is_number k)
late_number inst k e = late_is_number k (late_prefilter inst k e)

number_in : Answer → ℕ
number_in (plan words) = 0
number_in (refused k) = k

late_search : (rows : List BaselineGuillotineHeuristic) (layout : LayoutKind) (inst : ProblemInstance) (n : SearchNumbers) (k : ℕ) → searched rows layout inst n ≡ refused k
    → is_late k ≡ true
unfolding searched solution is_late number_in
late_search rows layout inst n k e = go (prefilter inst) refl (winner rows inst n) e
  where
    go : (q : Option ℕ) → prefilter inst ≡ q → (o : Option Candidate)
        → elim q [ some j ↦ refused j | none ↦ elim o [ none ↦ refused 17 | some c ↦ solution layout c ] ] ≡ refused k → is_late k ≡ true
    go (some j) p o h = ap is_late (sym (ap number_in h)) ∙ late_prefilter inst j p
    go none p none h = ap is_late (sym (ap number_in h))
    go none p (some c) h = absurd (not_refused k _ (sym h))

-- panels lie on sheets
some_sheet : (inst : ProblemInstance) (bins : List GuillotineSheet) → is_empty inst.cuts ≡ false → Perm (placed_cuts bins) inst.cuts → eqb (length bins) 0 ≡ false
unfolding concat_map
some_sheet inst [] e p = absurd (go inst.cuts e (length_perm p))
  where
    go : (cs : List CutInstance) → is_empty cs ≡ false → 0 ≡ length cs → ⊥
    go [] h k = subst T h tt
    go (c ∷ cs) h k = omega (arith, k)
some_sheet inst (b ∷ bins) e p = ne_eqb (suc (length bins)) 0 (λ h. omega (arith, h))

module _ (f : List ℕ) (passed : file_refusal f ≡ none) (some_cut : is_empty (instance_of f).cuts ≡ false) where
  asked : answer f ≡ searched heuristic_variants LayoutKind.Guillotine (instance_of f) (search_numbers (effort_of (project_of f).effort))
  unfolding answer answer_with optimized
  asked = rw (passed, answer_with, some_cut)

  sheets : (words : List ℕ) → FromWinner heuristic_variants f words → clears (plan words) ≡ true
  unfolding clears plan_words
  sheets words w = rw (w.as_words, some_sheet (instance_of f) w.candidate.bins some_cut w.won.panels)

  pub search_clears : clears (answer f) ≡ true
  unfolding clears answer
  search_clears = go (answer f) refl
    where
      empty : (cs : List CutInstance) → is_empty cs ≡ false → cs ≡ [] → ⊥
      empty cs h z = true≢false (sym (ap is_empty z) ∙ h)

      go : (a : Answer) → answer f ≡ a → clears a ≡ true
      go (refused k) e = late_search heuristic_variants LayoutKind.Guillotine (instance_of f) _ k (sym asked ∙ e)
      go (plan words) e =
          elim (plan_from_winner heuristic_variants f words e) [ inl z ↦ absurd (empty (instance_of f).cuts some_cut z) | inr w ↦ sheets words w ]

-- ---- together

pub cleared_exactly : (f : List ℕ) → clears (answer f) ≡ not (is_some (file_refusal f)) && not (is_empty (instance_of f).cuts)
cleared_exactly f = go (file_refusal f) refl (instance_of f).cuts refl
  where
    go : (q : Option ℕ) → file_refusal f ≡ q → (cs : List CutInstance) → (instance_of f).cuts ≡ cs → clears (answer f) ≡ not (is_some q) && not (is_empty cs)
    go (some n) e cs z = file_kept f n e
    go none e [] z = empty_kept f e z
    go none e (c ∷ cs) z = search_clears f e (ap is_empty z)
