-- Where the answer is 15 or 16, no words obey the piece rules: those numbers are the prefilter's alone.
use Rattle.std.specs.Prelude.{if◌then◌else◌}
use Prim.Native.Nat.{ℕ, ◌<◌}
use native.Mathlib.Omega.{arith}
use mathlib.Core.Path.{◌≡◌, refl, ap, subst}
use mathlib.Core.Logic.{◌⊎◌, inl, inr}
use mathlib.Core.Bool.{Bool, true, false}
use mathlib.Core.List.{List, []}
use mathlib.Core.Option.{Option, none, some}
use Rattle.lists.specs.Base.{is_empty}
use Rattle.model.specs.declared.BaselineGuillotineHeuristic.{BaselineGuillotineHeuristic}
use Rattle.model.specs.declared.LayoutKind.{LayoutKind}
use Rattle.model.specs.Types.{layout_of, effort_of}
use Rattle.model.specs.Fitness.{one}
use Rattle.model.specs.Candidate.{Candidate}
use Rattle.model.specs.Project.{project_of}
use Rattle.model.specs.Refusal.{file_refusal}
use Rattle.model.specs.Search.{SearchNumbers, search_numbers, heuristic_variants, winner}
use Rattle.model.specs.Plan.{plan_words}
use Rattle.model.specs.Outcome.{Outcome, least_workspace, is_late, clears, cleared, written, too_small, outcome}
use Rattle.model.specs.Answer.{Answer, plan, refused, answer, answer_with, prefilter, solution, searched, optimized}
use Rattle.trust.specs.PieceRules.{asked_by, PieceRules}
use Rattle.trust.proofs.Numbers.{EarlyNumber, file_early}
use Rattle.trust.proofs.NoWords.{no_words}

-- ---- an answer of 15 or 16

number_of : Answer → ℕ
number_of (plan words) = 0
number_of (refused k) = k

-- what the answer goes through, with the number that it ends in
pub prefiltered : (rows : List BaselineGuillotineHeuristic) (file : List ℕ) (k : ℕ) → (k ≡ 15) ⊎ (k ≡ 16) → answer_with rows file ≡ refused k
    → (file_refusal file ≡ none) × (prefilter (asked_by file) ≡ some k)
unfolding answer_with optimized searched solution number_of is_late
prefiltered rows file k which e = checks (file_refusal file) refl (ap number_of e)
  where
    n : SearchNumbers
    n = search_numbers (effort_of (project_of file).effort)

    large : 14 < k × (k < 17)
    large = sizes which
      where
        sizes : (k ≡ 15) ⊎ (k ≡ 16) → 14 < k × (k < 17)
        sizes (inl h) = omega arith
        sizes (inr h) = omega arith

    not_early : (j : ℕ) → (j ≡ 15) ⊎ (j ≡ 16) → EarlyNumber j → ⊥
    not_early j (inl h) early = subst EarlyNumber h early
    not_early j (inr h) early = subst EarlyNumber h early

    search : (q : Option ℕ) (o : Option Candidate)
        → number_of (elim q [ some j ↦ refused j | none ↦ elim o [ none ↦ refused 17 | some c ↦ solution LayoutKind.Guillotine c ] ]) ≡ k → q ≡ some k
    search (some j) o h = ap {B = Option ℕ} some h
    search none none h = absurd (omega (arith, large, h))
    search none (some c) h = absurd (omega (arith, large, h))

    asked : (b : Bool) → number_of (if b then plan (plan_words (layout_of (project_of file).layout) one []) else searched rows LayoutKind.Guillotine (asked_by file) n) ≡ k
        → prefilter (asked_by file) ≡ some k
    asked true h = absurd (omega (arith, large, h))
    asked false h = search (prefilter (asked_by file)) (winner rows (asked_by file) n) h

    checks : (q : Option ℕ) → file_refusal file ≡ q → number_of (elim q [ some j ↦ refused j | none ↦ optimized rows (project_of file) (asked_by file) ]) ≡ k
        → (file_refusal file ≡ none) × (prefilter (asked_by file) ≡ some k)
    checks (some j) f h = absurd (not_early k which (subst EarlyNumber h (file_early file j f)))
    checks none f h = (f, asked (is_empty (asked_by file).cuts) h)

-- at refusals 15 and 16 no layout that obeys the rules of pieces exists
pub no_plan : (rows : List BaselineGuillotineHeuristic) (file words : List ℕ) (k : ℕ) → (k ≡ 15) ⊎ (k ≡ 16) → answer_with rows file ≡ refused k → PieceRules file words → ⊥
no_plan rows file words k which e o =
    let p = prefiltered rows file k which e in
    no_words file words k p.0 p.1 o

-- and of a call of the entry
pub no_plan_outcome : (file workspace memory words : List ℕ) (k : ℕ) → (k ≡ 15) ⊎ (k ≡ 16) → (outcome file workspace memory).answer ≡ refused k → PieceRules file words → ⊥
unfolding outcome answer number_of
no_plan_outcome file workspace memory words k which e = go (too_small workspace memory) e
  where
    rest : Bool → Outcome
    rest b = if b then record { answer = refused 1; workspace = workspace; plan = memory }
        else record { answer = answer file; workspace = if clears (answer file) then cleared least_workspace workspace else workspace; plan = written (answer file) memory }

    not_one : (k ≡ 15) ⊎ (k ≡ 16) → 1 ≡ k → ⊥
    not_one (inl h) g = omega (arith, h, g)
    not_one (inr h) g = omega (arith, h, g)

    go : (b : Bool) → (rest b).answer ≡ refused k → PieceRules file words → ⊥
    go true h = absurd (not_one which (ap number_of h))
    go false h = no_plan heuristic_variants file words k which h
