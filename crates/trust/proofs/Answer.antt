-- The whole: a plan is the words of a winner, and that winner has all that a plan is trusted for.
use Rattle.std.specs.Prelude.{if◌then◌else◌}
use Prim.Native.Nat.{ℕ}
use mathlib.Core.Path.{◌≡◌, refl, sym, ap, subst}
use mathlib.Core.Logic.{◌⊎◌, inl, inr}
use mathlib.Core.List.{List, [], ◌∷◌, map}
use mathlib.Core.Option.{Option, none, some, get_or}
use Rattle.lists.specs.Base.{is_empty}
use Rattle.model.specs.declared.BaselineGuillotineHeuristic.{BaselineGuillotineHeuristic}
use Rattle.model.specs.declared.LayoutKind.{LayoutKind}
use Rattle.model.specs.declared.CutInstance.{CutInstance}
use Rattle.model.specs.Types.{layout_of, effort_of}
use Rattle.model.specs.Sheet.{making_of}
use Rattle.model.specs.Fitness.{fitness, positive_zero, one}
use Rattle.model.specs.Candidate.{Candidate}
use Rattle.model.specs.Project.{Project, project_of}
use Rattle.model.specs.Refusal.{file_refusal}
use Rattle.model.specs.Expand.{ProblemInstance, expand_project}
use Rattle.model.specs.Search.{SearchNumbers, search_numbers, winner}
use Rattle.model.specs.Plan.{plan_words}
use Rattle.model.specs.Answer.{Answer, plan, refused, answer_with, prefilter, solution, searched, optimized, makings}
use Rattle.trust.specs.Proper.{SheetOk}
use Rattle.trust.proofs.Search.{Won}
use Rattle.trust.proofs.Winner.{winner_ok}
use Rattle.trust.proofs.Checks.{admitted}

abbrev pub instance_of : List ℕ → ProblemInstance
instance_of bytes = expand_project (project_of bytes)

-- a plan with sheets: its words, its makings, and what holds of its candidate
pub record FromWinner (rows : List BaselineGuillotineHeuristic) (bytes words : List ℕ) : Type 0 where
  pub candidate : Candidate
  pub chosen : winner rows (instance_of bytes) (search_numbers (effort_of (project_of bytes).effort)) ≡ some candidate
  pub won : Won (SheetOk (instance_of bytes).kerf_width) (instance_of bytes) candidate
  pub as_words : words ≡ plan_words LayoutKind.Guillotine (get_or (fitness candidate.bins) positive_zero) candidate.bins
  pub made : makings rows bytes ≡ map (λ b. (b.stock, making_of b)) candidate.bins

words_of : Answer → List ℕ
words_of (plan ws) = ws
words_of (refused k) = []

IsPlan : Answer → Type 0
IsPlan (plan ws) = Unit {0}
IsPlan (refused k) = ⊥

pub not_refused : (k : ℕ) (ws : List ℕ) → refused k ≡ plan ws → ⊥
unfolding IsPlan
not_refused k ws e = subst IsPlan (sym e) tt

pub same_words : (vs ws : List ℕ) → plan vs ≡ plan ws → vs ≡ ws
unfolding words_of
same_words vs ws e = ap words_of e

pub plan_from_winner : (rows : List BaselineGuillotineHeuristic) (bytes words : List ℕ) → answer_with rows bytes ≡ plan words → ((instance_of bytes).cuts ≡ []) ⊎ FromWinner rows bytes words
unfolding answer_with optimized searched solution makings
plan_from_winner rows bytes words e = checks (file_refusal bytes) refl e
  where
    p : Project
    p = project_of bytes

    inst : ProblemInstance
    inst = expand_project p

    n : SearchNumbers
    n = search_numbers (effort_of p.effort)

    made : (c : Candidate) → file_refusal bytes ≡ none → winner rows inst n ≡ some c → solution LayoutKind.Guillotine c ≡ plan words → FromWinner rows bytes words
    made c f w k =
        record {
          candidate = c;
          chosen = w;
          won = winner_ok rows inst (admitted bytes f) n c w;
          as_words = sym (same_words _ words k);
          made = rw (w, makings);
        }

    search : file_refusal bytes ≡ none → (q : Option ℕ) (o : Option Candidate) → winner rows inst n ≡ o
        → (elim q [ some k ↦ refused k | none ↦ elim o [ none ↦ refused 17 | some c ↦ solution LayoutKind.Guillotine c ] ]) ≡ plan words → FromWinner rows bytes words
    search f (some k) o w h = absurd (not_refused k words h)
    search f none none w h = absurd (not_refused 17 words h)
    search f none (some c) w h = made c f w h

    empty : (cs : List CutInstance) → inst.cuts ≡ cs → file_refusal bytes ≡ none
        → (if is_empty cs then plan (plan_words (layout_of p.layout) one []) else searched rows LayoutKind.Guillotine inst n) ≡ plan words → (inst.cuts ≡ []) ⊎ FromWinner rows bytes words
    empty [] g f h = inl g
    empty (c ∷ cs) g f h = inr (search f (prefilter inst) (winner rows inst n) refl h)

    checks : (q : Option ℕ) → file_refusal bytes ≡ q → (elim q [ some k ↦ refused k | none ↦ optimized rows p inst ]) ≡ plan words → (inst.cuts ≡ []) ⊎ FromWinner rows bytes words
    checks (some k) f h = absurd (not_refused k words h)
    checks none f h = empty inst.cuts refl f h
