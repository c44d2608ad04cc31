-- Refusals are numbered 1 to 17, so the number 0 is free for a plan; and what 15 and 16 say of the file.
use Rattle.std.specs.Prelude.{if◌then◌else◌}
use Prim.Native.Nat.{ℕ}
use native.Mathlib.Omega.{arith}
use mathlib.Core.Path.{◌≡◌, refl, sym, ap, subst}
use mathlib.Core.Logic.{◌⊎◌, inl, inr}
use mathlib.Core.Bool.{Bool, true, false, not}
use mathlib.Core.List.{List, []}
use mathlib.Core.Option.{Option, none, some}
use lib.Dec.{T}
use Rattle.lists.specs.Base.{is_empty}
use Rattle.model.specs.declared.LayoutKind.{LayoutKind}
use Rattle.model.specs.Types.{layout_of, effort_of}
use Rattle.model.specs.Fitness.{one}
use Rattle.model.specs.Candidate.{Candidate}
use Rattle.model.specs.Project.{Project, project_of}
use Rattle.model.specs.Refusal.{file_refusal}
use Rattle.model.specs.Expand.{ProblemInstance, expand_project}
use Rattle.model.specs.Search.{SearchNumbers, search_numbers, heuristic_variants, winner}
use Rattle.model.specs.Plan.{plan_words}
use Rattle.model.specs.Answer.{plan, refused, answer, answer_with, optimized, prefilter, solution, searched}
use Rattle.model.specs.Answer.{Answer as Answered}
use Rattle.model.specs.Outcome.{Outcome, least_workspace, is_late, clears, cleared, written, too_small, outcome}
use Rattle.trust.specs.PieceRules.{PieceRules}
use Rattle.trust.specs.Trusted.{Trusted}
use Rattle.trust.proofs.Truth.{and_split}
use Rattle.trust.proofs.Numbers.{is_number, early_number, file_early}
use Rattle.trust.proofs.Cleared.{late_number}
use Rattle.trust.proofs.PlanTrusted.{trusted_outcome}
use Rattle.trust.proofs.NoPlan.{no_plan_outcome}
use Rattle.optimizer.specs.Promise.{number_of_answer}

-- a refusal's number
abbrev pub Numbered : Answered → Type 0
Numbered (plan words) = Unit {0}
Numbered (refused n) = T (is_number n)

-- ---- every answer

file_number : (f : List ℕ) (n : ℕ) → file_refusal f ≡ some n → T (is_number n)
file_number f n e = early_number n (file_early f n e)

searched_numbered : (layout : LayoutKind) (inst : ProblemInstance) (n : SearchNumbers) → Numbered (searched heuristic_variants layout inst n)
unfolding searched solution
searched_numbered layout inst n = go (prefilter inst) refl (winner heuristic_variants inst n)
  where
    go : (q : Option ℕ) → prefilter inst ≡ q → (o : Option Candidate)
        → Numbered (elim q [ some k ↦ refused k | none ↦ elim o [ none ↦ refused 17 | some c ↦ solution layout c ] ])
    go (some k) e o = late_number inst k e
    go none e none = tt
    go none e (some c) = tt

optimized_numbered : (p : Project) (inst : ProblemInstance) → Numbered (optimized heuristic_variants p inst)
unfolding optimized
optimized_numbered p inst = go (is_empty inst.cuts)
  where
    go : (b : Bool) → Numbered (if b then plan (plan_words (layout_of p.layout) one []) else searched heuristic_variants LayoutKind.Guillotine inst (search_numbers (effort_of p.effort)))
    go true = tt
    go false = searched_numbered LayoutKind.Guillotine inst (search_numbers (effort_of p.effort))

answer_numbered : (f : List ℕ) → Numbered (answer f)
unfolding answer answer_with
answer_numbered f = go (file_refusal f) refl
  where
    go : (q : Option ℕ) → file_refusal f ≡ q → Numbered (elim q [ some k ↦ refused k | none ↦ optimized heuristic_variants (project_of f) (expand_project (project_of f)) ])
    go (some k) e = file_number f k e
    go none e = optimized_numbered (project_of f) (expand_project (project_of f))

pub outcome_numbered : (f w p : List ℕ) → Numbered (outcome f w p).answer
unfolding outcome
outcome_numbered f w p = go (too_small w p)
  where
    rest : Bool → Outcome
    rest b = if b then record { answer = refused 1; workspace = w; plan = p }
        else record { answer = answer f; workspace = if clears (answer f) then cleared least_workspace w else w; plan = written (answer f) p }

    go : (b : Bool) → Numbered (rest b).answer
    go true = tt
    go false = answer_numbered f

-- ---- what is numbered 0 is a plan

zero_planned : (a : Answered) → Numbered a → number_of_answer a ≡ 0 → (words : List ℕ) × (a ≡ plan words)
zero_planned (plan words) h e = (words, refl)
zero_planned (refused n) h e = absurd (subst (λ (m : ℕ). T (is_number m)) e h)

pub zero_trusted : (f w p : List ℕ) → number_of_answer (outcome f w p).answer ≡ 0 → Trusted f (outcome f w p).plan
zero_trusted f w p e =
    let words = zero_planned (outcome f w p).answer (outcome_numbered f w p) e in
    trusted_outcome f w p words.0 words.1

-- ---- what is numbered 15 or 16 is that refusal

late_refused : (a : Answered) (k : ℕ) → (k ≡ 15) ⊎ (k ≡ 16) → k ≡ number_of_answer a → a ≡ refused k
late_refused (plan words) k (inl h) e = absurd (omega (arith, h, e))
late_refused (plan words) k (inr h) e = absurd (omega (arith, h, e))
late_refused (refused n) k h e = ap refused (sym e)

pub late_impossible : (f w p words : List ℕ) (k : ℕ) → (k ≡ 15) ⊎ (k ≡ 16) → k ≡ number_of_answer (outcome f w p).answer → PieceRules f words → ⊥
late_impossible f w p words k which e = no_plan_outcome f w p words k which (late_refused (outcome f w p).answer k which e)
