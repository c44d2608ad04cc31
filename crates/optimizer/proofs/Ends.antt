-- The ways the entry ends, and what the definition says of each.
use Prim.Native.Nat.{ℕ, ◌≤◌}
use mathlib.Core.Path.{◌≡◌, refl, sym, ap, ◌∙◌, subst}
use mathlib.Core.Bool.{Bool, true, false, true≢false, ◌||◌}
use lib.Dec.{ltb, eqb}
use borrow.Author.Tests.{ltb-false, eqb-true, eqb-false}
use mathlib.Core.List.{List, [], ◌++◌}
use mathlib.Core.Option.{none, some}
use lib.ListN.{length, drop, replicate}
use lib.Seq.{drop-drop}
use Rattle.lists.specs.Base.{is_empty}
use Rattle.lists.proofs.Arrays.{length_zero, not_empty}
use Rattle.model.specs.declared.BaselineGuillotineHeuristic.{BaselineGuillotineHeuristic}
use Rattle.model.specs.declared.LayoutKind.{LayoutKind}
use Rattle.model.specs.Types.{layout_of, effort_of}
use Rattle.model.specs.Fitness.{one}
use Rattle.model.specs.Candidate.{Candidate}
use Rattle.model.specs.Project.{project_of}
use Rattle.model.specs.Refusal.{file_refusal}
use Rattle.model.specs.Expand.{ProblemInstance, expand_project}
use Rattle.model.specs.Search.{SearchNumbers, search_numbers, heuristic_variants, winner}
use Rattle.model.specs.Plan.{plan_words}
use Rattle.model.specs.Answer.{plan, refused, answer, answer_with, optimized, prefilter, solution, searched}
use Rattle.model.specs.Answer.{Answer as Answered}
use Rattle.model.specs.Outcome.{Outcome, least_workspace, least_plan, too_small, cleared, outcome}
use Rattle.model.proofs.Memory.{outcome_answer, refusal_untouched, plan_first, kept_as_found, first_cleared}
use Rattle.trust.specs.Trusted.{Trusted}
use Rattle.trust.proofs.PopulationSize.{source_within}
use Rattle.model.specs.declared.OptimizerEffort.{OptimizerEffort}
use Rattle.search.specs.declared.seeds.SearchNumbers.{SearchNumbers as SearchNumbersIn}
use Rattle.search.specs.Numbers.{numbers_of}
use Rattle.search.specs.Regions.{behind_slots}
use Rattle.plan.specs.Sheets.{candidate_plan}
use Rattle.std.specs.Prelude.{Result, Ok, Err}
use Rattle.project.specs.declared.Refusal.{Refusal}
use Rattle.project.specs.Refusals.{refusal_number}
use Rattle.optimizer.specs.Promise.{number_of, number_of_answer, Ends, Promise}
use Rattle.trust.proofs.Cleared.{file_kept, empty_kept, search_clears}
use Rattle.optimizer.proofs.Numbers.{zero_trusted, late_impossible}

-- a plan as the definition says can be trusted
promised : {f w p w' p' : List ℕ} {n : ℕ} → n ≡ number_of_answer (outcome f w p).answer → p' ≡ (outcome f w p).plan → w' ≡ (outcome f w p).workspace → Promise f w p n w' p'
promised {f} {w} {p} {w'} {p'} {n} a q u =
    record {
      answer = a;
      plan = q;
      workspace = u;
      trusted = λ e. subst (Trusted f) (sym q) (zero_trusted f w p (sym a ∙ e));
      impossible = λ which words. late_impossible f w p words n which a;
    }

-- ---- too little memory

pub end_small : (f w p : List ℕ) → too_small w p ≡ true → Promise f w p 1 w p
unfolding outcome
end_small f w p h =
    let o : outcome f w p ≡ record { answer = refused 1; workspace = w; plan = p } = rw h in
    promised (ap (λ (x : Outcome). number_of_answer x.answer) (sym o)) (ap (λ (x : Outcome). x.plan) (sym o)) (ap (λ (x : Outcome). x.workspace) (sym o))

-- ---- and enough of it

neither : (a b : Bool) → (a || b) ≡ false → (a ≡ false) × (b ≡ false)
neither true b e = absurd (true≢false e)
neither false b e = (refl, e)

pub enough : (w p : List ℕ) → too_small w p ≡ false → (least_workspace ≤ length w) × (least_plan ≤ length p)
unfolding too_small
enough w p e =
    let both = neither (ltb (length w) least_workspace) (ltb (length p) least_plan) e in
    (ltb-false (length w) least_workspace both.0, ltb-false (length p) least_plan both.1)

module _ (f w p : List ℕ) (h : least_workspace ≤ length w) (k : least_plan ≤ length p) where
  -- a refusal, and a plan, whose words come first; the workspace afterwards is the definition's
  refusal : (n : ℕ) (w' : List ℕ) → answer f ≡ refused n → w' ≡ (outcome f w p).workspace → Promise f w p n w' p
  refusal n w' e u = promised (ap number_of_answer (sym e) ∙ ap number_of_answer (sym (outcome_answer f w p h k))) (sym (refusal_untouched f w p h k n e)) u

  planned : (words w' : List ℕ) → answer f ≡ plan words → w' ≡ (outcome f w p).workspace → Promise f w p 0 w' (words ++ drop (length words) p)
  planned words w' e u = promised (ap number_of_answer (sym e) ∙ ap number_of_answer (sym (outcome_answer f w p h k))) (sym (plan_first f w p h k words e)) u

  -- ---- the file is refused

  refused_file : (n : ℕ) → file_refusal f ≡ some n → answer f ≡ refused n
  unfolding answer answer_with
  refused_file n e = rw (e, answer_with)

  pub end_file : (n : ℕ) → file_refusal f ≡ some n → Promise f w p n w p
  end_file n e = refusal n w (refused_file n e) (sym (kept_as_found f w p h k (file_kept f n e)))

  -- ---- the file passes

  module _ (passed : file_refusal f ≡ none) where
    abbrev inst : ProblemInstance
    inst = expand_project (project_of f)

    passed_answer : answer f ≡ optimized heuristic_variants (project_of f) inst
    unfolding answer answer_with
    passed_answer = rw (passed, answer_with)

    -- no cuts
    abbrev pub empty_words : List ℕ
    empty_words = plan_words (layout_of (project_of f).layout) one []

    pub end_empty : inst.cuts ≡ [] → Promise f w p 0 w (empty_words ++ drop (length empty_words) p)
    unfolding optimized
    end_empty e =
        planned empty_words w (passed_answer ∙ none_asked) (sym (kept_as_found f w p h k (empty_kept f passed e)))
      where
        none_asked : optimized heuristic_variants (project_of f) inst ≡ plan empty_words
        none_asked = rw e

    -- cuts: the search
    module _ (some_cut : is_empty inst.cuts ≡ false) where
      search_answer : answer f ≡ searched heuristic_variants LayoutKind.Guillotine inst (search_numbers (effort_of (project_of f).effort))
      unfolding optimized
      search_answer = passed_answer ∙ rw some_cut

      -- what the search left in the words that are cleared does not matter
      same_cleared : (v : List ℕ) → drop least_workspace v ≡ drop least_workspace w → cleared least_workspace v ≡ (outcome f w p).workspace
      unfolding cleared
      same_cleared v e = ap (λ (l : List ℕ). replicate least_workspace 0 ++ l) e ∙ sym (first_cleared f w p h k (search_clears f passed some_cut))

      pub end_refused : (n : ℕ) (v : List ℕ) → searched heuristic_variants LayoutKind.Guillotine inst (search_numbers (effort_of (project_of f).effort)) ≡ refused n
          → drop least_workspace v ≡ drop least_workspace w → Promise f w p n (cleared least_workspace v) p
      end_refused n v e u = refusal n (cleared least_workspace v) (search_answer ∙ e) (same_cleared v u)

      pub end_planned : (words v : List ℕ) → searched heuristic_variants LayoutKind.Guillotine inst (search_numbers (effort_of (project_of f).effort)) ≡ plan words
          → drop least_workspace v ≡ drop least_workspace w → Promise f w p 0 (cleared least_workspace v) (words ++ drop (length words) p)
      end_planned words v e u = planned words (cleared least_workspace v) (search_answer ∙ e) (same_cleared v u)

      -- either, as the search says
      pub end_search : (r : Result (Unit {0}) Refusal) (p' v : List ℕ) → Ends (searched heuristic_variants LayoutKind.Guillotine inst (search_numbers (effort_of (project_of f).effort))) r p p'
          → drop least_workspace v ≡ drop least_workspace w → Promise f w p (number_of r) (cleared least_workspace v) p'
      end_search (Ok t) p' v e u = subst (λ (x : List ℕ). Promise f w p 0 (cleared least_workspace v) x) (sym e.ends.2) (end_planned e.ends.0 v e.ends.1 u)
      end_search (Err r) p' v e u = subst (λ (x : List ℕ). Promise f w p (refusal_number r) (cleared least_workspace v) x) (sym e.ends.1) (end_refused (refusal_number r) v e.ends.0 u)

-- ---- whether there are cuts

pub none_left : {A : Type 0} {items cuts : List A} → items ≡ cuts → eqb (length items) 0 ≡ true → cuts ≡ []
none_left {items = items} e f = sym e ∙ length_zero items (eqb-true (length items) 0 f)

pub some_left : {A : Type 0} {items cuts : List A} → items ≡ cuts → eqb (length items) 0 ≡ false → is_empty cuts ≡ false
some_left {items = items} e f = ap is_empty (sym e) ∙ not_empty items (eqb-false (length items) 0 f)

-- ---- the search

pub searched_refused : (rows : List BaselineGuillotineHeuristic) (inst : ProblemInstance) (n : SearchNumbers) (k : ℕ) → prefilter inst ≡ some k
    → searched rows LayoutKind.Guillotine inst n ≡ refused k
unfolding searched
searched_refused rows inst n k e = rw (e, searched)

pub searched_none : (rows : List BaselineGuillotineHeuristic) (inst : ProblemInstance) (n : SearchNumbers) → prefilter inst ≡ none → winner rows inst n ≡ none
    → searched rows LayoutKind.Guillotine inst n ≡ refused 17
unfolding searched
searched_none rows inst n e w = rw (e, searched, w)

pub searched_some : (rows : List BaselineGuillotineHeuristic) (inst : ProblemInstance) (n : SearchNumbers) (c : Candidate) → prefilter inst ≡ none → winner rows inst n ≡ some c
    → searched rows LayoutKind.Guillotine inst n ≡ solution LayoutKind.Guillotine c
unfolding searched
searched_some rows inst n c e w = rw (e, searched, w)

-- ---- the winner

pub few_numbers : (n : SearchNumbersIn) (e : OptimizerEffort) → numbers_of n ≡ search_numbers e → (n.shuffles ≤ 24) × (n.survivors ≤ 32)
unfolding numbers_of
few_numbers n e q =
    (subst (λ (x : SearchNumbers). x.shuffles ≤ 24) (sym q) (source_within e).shuffles, subst (λ (x : SearchNumbers). x.survivors ≤ 32) (sym q) (source_within e).survivors)

module _ (inst : ProblemInstance) (rows : List BaselineGuillotineHeuristic) (n : SearchNumbers) (e : OptimizerEffort)
    (r : rows ≡ heuristic_variants) (m : n ≡ search_numbers e) (passed : prefilter inst ≡ none) where
  same_winner : winner rows inst n ≡ winner heuristic_variants inst (search_numbers e)
  same_winner = ap (λ (x : List BaselineGuillotineHeuristic). winner x inst n) r ∙ ap (winner heuristic_variants inst) m

  pub winner_planned : (c : Candidate) → winner rows inst n ≡ some c
      → searched heuristic_variants LayoutKind.Guillotine inst (search_numbers e) ≡ plan (candidate_plan c)
  unfolding solution
  winner_planned c w = searched_some heuristic_variants inst (search_numbers e) c passed (sym same_winner ∙ w)

  pub winner_missing : winner rows inst n ≡ none → searched heuristic_variants LayoutKind.Guillotine inst (search_numbers e) ≡ refused 17
  winner_missing w = searched_none heuristic_variants inst (search_numbers e) passed (sym same_winner ∙ w)

-- the search's own words are among those that are cleared
pub behind_cleared : (a b : List ℕ) → behind_slots a ≡ behind_slots b → drop least_workspace a ≡ drop least_workspace b
unfolding behind_slots
behind_cleared a b e = sym (drop-drop 3904 12480 a) ∙ ap (drop 3904) e ∙ drop-drop 3904 12480 b

-- ---- equal things for each other

pub ends_as : {a a' : Answered} {r : Result (Unit {0}) Refusal} {p p' : List ℕ} → a ≡ a' → Ends a r p p' → Ends a' r p p'
ends_as {r} {p} {p'} e h = subst (λ (x : Answered). Ends x r p p') e h

pub searched_as : {i i' : ProblemInstance} {e e' : OptimizerEffort} → i ≡ i' → e ≡ e'
    → searched heuristic_variants LayoutKind.Guillotine i (search_numbers e) ≡ searched heuristic_variants LayoutKind.Guillotine i' (search_numbers e')
searched_as p q = λ k. searched heuristic_variants LayoutKind.Guillotine (p k) (search_numbers (q k))

pub promise_as : {f w p v v' p' : List ℕ} {n : ℕ} → v' ≡ v → Promise f w p n v p' → Promise f w p n v' p'
promise_as {f} {w} {p} {p' = p'} {n = n} e h = subst (λ (x : List ℕ). Promise f w p n x p') (sym e) h

pub promise_numbered : {f w p v p' : List ℕ} {n m : ℕ} → n ≡ m → Promise f w p n v p' → Promise f w p m v p'
promise_numbered {f} {w} {p} {v} {p'} e h = subst (λ (x : ℕ). Promise f w p x v p') e h
