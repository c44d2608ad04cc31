-- No text is longer than `most_text`, so a buffer of that room takes every text whole.
use Prim.Native.Nat.{ℕ, zero, suc, ◌-◌, ◌≤◌, ◌<◌}
use native.Mathlib.Omega.{arith}
use mathlib.Core.Path.{◌≡◌, refl, sym, ◌∙◌, subst}
use mathlib.Core.List.{List, [], ◌∷◌, ◌++◌}
use mathlib.Core.Option.{get_or as or_else}
use lib.Dec.{T, ltb, ltb→lt}
use lib.ListN.{length, get_or, replicate, length-append, length-replicate}
use Rattle.std.proofs.lemmas.List.{take_all}
use borrow.Author.Tests.{ne_eqb}
use Rattle.lists.specs.Base.{sum}
use Rattle.lists.specs.Elements.{All}
use Rattle.lists.proofs.Perm.{all_append}
use Rattle.lists.proofs.Every.{all_drop}
use Rattle.model.specs.declared.LayoutKind.{LayoutKind}
use Rattle.model.specs.Types.{layout_of}
use Rattle.model.specs.Fitness.{fitness, positive_zero, one}
use Rattle.model.specs.Project.{project_of}
use Rattle.model.specs.Search.{heuristic_variants}
use Rattle.model.specs.Plan.{plan_words}
use Rattle.model.specs.Answer.{Answer, plan, refused, answer}
use Rattle.model.specs.Outcome.{least_workspace, least_plan}
use Rattle.model.proofs.Memory.{outcome_answer, plan_first}
use Rattle.trust.proofs.Truth.{and_split}
use Rattle.trust.proofs.Numbers.{is_number}
use Rattle.trust.proofs.Answer.{instance_of}
use Rattle.trust.proofs.Ranges.{Byte, ranged}
use Rattle.trust.proofs.CandidateSize.{piece_count, candidate_counts}
use Rattle.trust.proofs.Planned.{plan_admitted, Planned, no_cuts, searched_for}
use Rattle.trust.proofs.Planned.{planned as planned_from}
use Rattle.trust.proofs.PlanSize.{counted}
use Rattle.trust.proofs.PlanRange.{Word, plan_words_lem}
use Rattle.optimizer.proofs.FromFile.{all_bytes}
use Rattle.optimizer.proofs.Numbers.{Numbered, outcome_numbered}
use Rattle.words.specs.Appending.{with_bytes}
use Rattle.words.specs.Ascii.{ascii}
use Rattle.words.specs.Numerals.{decimal_of}
use Rattle.text.specs.PlanText.{plan_text}
use Rattle.project.specs.declared.Refusal.{Refusal}
use Rattle.project.specs.Refusals.{refusal_number}
use Rattle.text.specs.Text.{refusal_text, answer_text, planned, printed, most_text}
use Rattle.text.proofs.Texts.{refusal_number-within}
use Rattle.text.proofs.Longest.{two_digits_most, plan_most}

-- ---- the text of a plan

zeros : (n : ℕ) → All Word (replicate n 0)
zeros zero = tt
zeros (suc n) = (omega arith, zeros n)

module _ (file : List ℕ) (b : All Byte file) where
  -- as the words stand in memory of the least size
  text_most : (words rest : List ℕ) → answer file ≡ plan words → All Word rest → length (plan_text (words ++ rest)) ≤ most_text
  unfolding answer piece_count sum
  text_most words rest e r = go (planned_from heuristic_variants file words b e)
    where
      all : All Word (words ++ rest)
      all = all_append Word words rest (plan_words_lem heuristic_variants file words b e) r

      go : Planned file words → length (plan_text (words ++ rest)) ≤ most_text
      go (no_cuts z w) = none (layout_of (project_of file).layout) w
        where
          none : (l : LayoutKind) → words ≡ plan_words l one [] → length (plan_text (words ++ rest)) ≤ most_text
          none l w = rw w (omega (arith, plan_most l one [] rest (subst (λ (ws : List ℕ). All Word (ws ++ rest)) w all) tt tt))
      go (searched_for p) =
          let inst = instance_of file in
          let bins = p.candidate.bins in
          let share = or_else (fitness bins) positive_zero in
          let r = ranged file b (plan_admitted heuristic_variants file words e) in
          let c = candidate_counts inst r [] p.candidate p.proper in
          rw p.as_words
          (omega (
            arith,
            plan_most LayoutKind.Guillotine share bins rest (subst (λ (ws : List ℕ). All Word (ws ++ rest)) p.as_words all) (counted inst.kerf_width bins p.proper.kept.sheets) c.each,
            c.pieces,
            c.few,
            r.few_panels,
          ))

-- ---- of any answer

refusal_short : (n : ℕ) → n < 100 → length (refusal_text n) ≤ 11
unfolding refusal_text
refusal_short n h =
    let keyword : length (ascii "refused ") ≡ 8 = refl in
    omega (
      arith,
      keyword,
      length-append (ascii "refused ") (decimal_of n ++ (10 ∷ [])),
      length-append (decimal_of n) (10 ∷ []),
      two_digits_most n h,
    )

refusal_most : (n : ℕ) → Numbered (refused n) → length (refusal_text n) ≤ most_text
refusal_most n h = omega (arith, refusal_short n (omega (arith, ltb→lt n 18 (and_split (ltb 0 n) (ltb n 18) h).1)))

pub longest : (file : List ℕ) → All Byte file → length (printed file) ≤ most_text
unfolding printed answer_text
longest file b = go (planned file).answer refl (outcome_numbered file (replicate least_workspace 0) (replicate least_plan 0))
  where
    same_answer : (planned file).answer ≡ answer file
    same_answer = outcome_answer file (replicate least_workspace 0) (replicate least_plan 0) (omega (arith, length-replicate {A = ℕ} least_workspace 0)) (omega (arith, length-replicate {A = ℕ} least_plan 0))

    go : (a : Answer) → (planned file).answer ≡ a → Numbered a → length (printed file) ≤ most_text
    go (plan words) e h =
        rw (e, plan_first file (replicate least_workspace 0) (replicate least_plan 0) (omega (arith, length-replicate {A = ℕ} least_workspace 0)) (omega (arith, length-replicate {A = ℕ} least_plan 0)) words (sym same_answer ∙ e))
        (text_most file b words _ (sym same_answer ∙ e) (all_drop Word (length words) _ (zeros least_plan)))
    go (refused n) e h = rw (e, ne_eqb n 0 (λ z. subst (λ (m : ℕ). T (is_number m)) z h)) (refusal_most n h)

pub whole : (file held : List ℕ) (room : ℕ) → ((i : ℕ) → get_or file i 0 < 256) → most_text ≤ room → held ≡ [] → with_bytes room held (printed file) ≡ printed file
unfolding with_bytes
whole file held room b h e = rw e (take_all (room - 0) (printed file) (omega (arith, longest file (all_bytes file b))))

-- a refusal's text where there is room for the longest
pub refusal_whole : (r : Refusal) (held : List ℕ) (room : ℕ) → 11 ≤ room → held ≡ [] → with_bytes room held (refusal_text (refusal_number r)) ≡ refusal_text (refusal_number r)
unfolding with_bytes
refusal_whole r held room h e = rw e (take_all (room - 0) (refusal_text (refusal_number r)) (omega (arith, refusal_short (refusal_number r) (omega (arith, (refusal_number-within r).1)))))
