-- Which sheets a plan is written from: those of a candidate with all that the search's candidates have, or none where there are no cuts.
use Rattle.std.specs.Prelude.{if◌then◌else◌}
use Prim.Native.Nat.{ℕ, ◌<◌}
use native.Mathlib.Omega.{arith}
use mathlib.Core.Path.{◌≡◌, refl, sym, ap, ◌∙◌}
use mathlib.Core.Logic.{◌⊎◌, inl, inr}
use mathlib.Core.List.{List, [], ◌∷◌, cons≢nil}
use mathlib.Core.Option.{Option, none, some, get_or}
use lib.Dec.{T}
use lib.ListN.{length}
use Rattle.lists.specs.Base.{is_empty}
use Rattle.lists.specs.Elements.{All}
use Rattle.model.specs.declared.LayoutKind.{LayoutKind}
use Rattle.model.specs.declared.BaselineGuillotineHeuristic.{BaselineGuillotineHeuristic}
use Rattle.model.specs.declared.CutInstance.{CutInstance}
use Rattle.model.specs.Types.{layout_of, effort_of}
use Rattle.model.specs.Fitness.{fitness, positive_zero, one}
use Rattle.model.specs.Candidate.{Candidate, is_valid}
use Rattle.model.specs.Project.{project_of}
use Rattle.model.specs.Refusal.{file_refusal}
use Rattle.model.specs.Expand.{ProblemInstance, expand_project}
use Rattle.model.specs.Search.{search_numbers}
use Rattle.model.specs.Plan.{plan_words}
use Rattle.model.specs.Answer.{plan, refused, answer_with, searched, optimized}
use Rattle.trust.specs.Proper.{CandidateProper}
use Rattle.trust.proofs.Checks.{admitted}
use Rattle.trust.proofs.Answer.{instance_of, FromWinner, not_refused, same_words, plan_from_winner}
use Rattle.trust.proofs.Ranges.{Byte, ranged}
use Rattle.trust.proofs.Proper.{winner_proper}

pub plan_admitted : (rows : List BaselineGuillotineHeuristic) (bytes words : List ℕ) → answer_with rows bytes ≡ plan words → file_refusal bytes ≡ none
unfolding answer_with
plan_admitted rows bytes words e = go (file_refusal bytes) e
  where
    go : (q : Option ℕ) → (elim q [ some k ↦ refused k | none ↦ optimized rows (project_of bytes) (expand_project (project_of bytes)) ]) ≡ plan words → q ≡ none
    go none k = refl
    go (some n) k = absurd (not_refused n words k)

pub empty_plan : (rows : List BaselineGuillotineHeuristic) (bytes words : List ℕ) → answer_with rows bytes ≡ plan words → (instance_of bytes).cuts ≡ []
    → words ≡ plan_words (layout_of (project_of bytes).layout) one []
unfolding answer_with optimized
empty_plan rows bytes words e z = go (file_refusal bytes) (instance_of bytes).cuts z e
  where
    go : (q : Option ℕ) (cs : List CutInstance) → cs ≡ []
        → (elim q [ some k ↦ refused k | none ↦ if is_empty cs then plan (plan_words (layout_of (project_of bytes).layout) one []) else searched rows LayoutKind.Guillotine (instance_of bytes) (search_numbers (effort_of (project_of bytes).effort)) ]) ≡ plan words
        → words ≡ plan_words (layout_of (project_of bytes).layout) one []
    go (some n) cs f k = absurd (not_refused n words k)
    go none [] f k = sym (same_words _ words k)
    go none (c ∷ cs) f k = absurd (cons≢nil f)

-- a plan with sheets
pub record ProperPlan (inst : ProblemInstance) (words : List ℕ) : Type 0 where
  pub some : 0 < length inst.cuts
  pub candidate : Candidate
  pub proper : CandidateProper inst candidate
  pub valid : T (is_valid inst.cuts candidate)
  pub as_words : words ≡ plan_words LayoutKind.Guillotine (get_or (fitness candidate.bins) positive_zero) candidate.bins

pub data Planned (bytes words : List ℕ) : Type 0 where
  no_cuts : (instance_of bytes).cuts ≡ [] → words ≡ plan_words (layout_of (project_of bytes).layout) one [] → Planned bytes words
  searched_for : ProperPlan (instance_of bytes) words → Planned bytes words

pub planned : (rows : List BaselineGuillotineHeuristic) (bytes words : List ℕ) → All Byte bytes → answer_with rows bytes ≡ plan words → Planned bytes words
planned rows bytes words b e = go (instance_of bytes).cuts refl (plan_from_winner rows bytes words e)
  where
    none_refuses : file_refusal bytes ≡ none
    none_refuses = plan_admitted rows bytes words e

    from : 0 < length (instance_of bytes).cuts → FromWinner rows bytes words → Planned bytes words
    from n f =
        let w = winner_proper rows (instance_of bytes) (admitted bytes none_refuses) (ranged bytes b none_refuses) (search_numbers (effort_of (project_of bytes).effort)) f.candidate f.chosen in
        searched_for (record { some = n; candidate = f.candidate; proper = w.0; valid = w.1; as_words = f.as_words })

    go : (cs : List CutInstance) → (instance_of bytes).cuts ≡ cs → ((instance_of bytes).cuts ≡ []) ⊎ FromWinner rows bytes words → Planned bytes words
    go [] z s = no_cuts z (empty_plan rows bytes words e z)
    go (c ∷ cs) z (inl k) = absurd (cons≢nil (sym z ∙ k))
    go (c ∷ cs) z (inr f) = from (omega (arith, ap length z)) f
