-- The plan of its first four words, its contents and its bodies.
use Prim.Native.Nat.{ℕ, ◌+◌, ◌*◌, ◌/◌, ◌%◌, ◌^◌, ◌≤◌}
use native.Mathlib.Omega.{arith}
use mathlib.Core.Path.{◌≡◌, refl, sym, ap, ◌∙◌}
use mathlib.Core.List.{List, [], ◌∷◌, ◌++◌, map}
use mathlib.Core.Option.{get_or}
use lib.ListN.{length, length-append}
use lib.Ieee.{Float, binary64, to_bits}
use Rattle.lists.specs.Base.{concat_map}
use Rattle.lists.specs.Parts.{patch}
use Rattle.lists.proofs.Sums.{length-map}
use Rattle.lists.proofs.Parts.{patch_append, patch_front}
use Rattle.model.specs.declared.LayoutKind.{LayoutKind}
use Rattle.model.specs.Types.{layout_code}
use Rattle.model.specs.Sheet.{GuillotineSheet}
use Rattle.model.specs.Fitness.{fitness, positive_zero, one}
use Rattle.model.specs.Plan.{sheet_words, contents_from, plan_words}
use Rattle.trust.proofs.PlanSize.{body_words, plan_length}
use Rattle.trust.proofs.RoundTrip.{contents_length}
use Rattle.candidate.specs.declared.fitness.SheetAreas.{SheetAreas}
use Rattle.candidate.specs.Areas.{fitness_of}
use Rattle.candidate.proofs.fitness.Sheets.{fitness_areas}
use Rattle.plan.specs.Sheets.{Plans, bodies_of, WritesFrom}
use Rattle.plan.proofs.Swaps.{patch_first}

-- ---- fitness by the areas noted

pub noted_fitness : (sheets : List GuillotineSheet) (start end : ℕ) (before after : List ℕ) (areas : List SheetAreas) → WritesFrom start sheets before after end areas
    → get_or (fitness_of areas) positive_zero ≡ get_or (fitness sheets) positive_zero
noted_fitness sheets start end before after areas so =
    ap (λ (l : List SheetAreas). get_or (fitness_of l) positive_zero) so.noted
    ∙ ap (λ o. get_or o positive_zero) (sym (fitness_areas sheets))

-- ---- the words

module _ (layout : LayoutKind) (f : Float) (sheets : List GuillotineSheet) where
  abbrev head : List ℕ
  head = length sheets ∷ to_bits binary64 f % 2 ^ 32 ∷ to_bits binary64 f / 2 ^ 32 ∷ layout_code layout ∷ []

  abbrev entries : List ℕ
  entries = contents_from (4 + 2 * length sheets) (map sheet_words sheets)

  whole : head ++ (entries ++ bodies_of sheets) ≡ plan_words layout f sheets
  unfolding plan_words
  whole = refl

  named : (n bits low high : ℕ) → n ≡ length sheets → bits ≡ to_bits binary64 f → low ≡ bits % 2 ^ 32 → high ≡ bits / 2 ^ 32 → n ∷ low ∷ high ∷ layout_code layout ∷ [] ≡ head
  named n bits low high count e l h = rw (l, h, e, count)

  pub written : (before plan plan₁ : List ℕ) (end : ℕ) (areas : List SheetAreas) (n bits low high : ℕ) → WritesFrom (4 + 2 * length sheets) sheets before plan end areas
      → n ≡ length sheets → bits ≡ to_bits binary64 f → low ≡ bits % 2 ^ 32 → high ≡ bits / 2 ^ 32 → plan₁ ≡ patch plan 0 (n ∷ low ∷ high ∷ layout_code layout ∷ [])
      → length (plan_words layout f sheets) ≤ length before → Plans (plan_words layout f sheets) before plan₁ end
  unfolding body_words
  written before plan plan₁ end areas n bits low high so count is-bits is-low is-high e room =
      let size : length entries ≡ 2 * length sheets = omega (arith, contents_length (4 + 2 * length sheets) (map sheet_words sheets), length-map sheet_words sheets) in
      let total : length (plan_words layout f sheets) ≡ 4 + 2 * length sheets + length (bodies_of sheets) = plan_length layout f sheets in
      let parts : length (entries ++ bodies_of sheets) ≡ length entries + length (bodies_of sheets) = length-append entries (bodies_of sheets) in
      record {
        memory =
            e
            ∙ ap (patch plan 0) (named n bits low high count is-bits is-low is-high)
            ∙ ap (λ (l : List ℕ). patch l 0 head) (so.words ∙ patch_append before 4 entries (bodies_of sheets) (4 + 2 * length sheets) (omega arith) (omega arith))
            ∙ patch_front before 4 0 head (entries ++ bodies_of sheets) refl (omega arith)
            ∙ ap (patch before 0) whole
            ∙ patch_first before (plan_words layout f sheets);
        counts = omega (arith, so.ends);
      }

-- ---- no sheets

empty_words_lem : (layout : LayoutKind) → 0 ∷ 0 ∷ 1072693248 ∷ layout_code layout ∷ [] ≡ plan_words layout one []
unfolding plan_words contents_from concat_map to_bits
empty_words_lem layout = refl

pub empty_written : (layout : LayoutKind) (before after : List ℕ) (code : ℕ) → code ≡ layout_code layout → after ≡ patch before 0 (0 ∷ 0 ∷ 1072693248 ∷ code ∷ [])
    → Plans (plan_words layout one []) before after 4
empty_written layout before after code e f =
    record {
      memory = f ∙ ap (λ (c : ℕ). patch before 0 (0 ∷ 0 ∷ 1072693248 ∷ c ∷ [])) e ∙ ap (patch before 0) (empty_words_lem layout) ∙ patch_first before (plan_words layout one []);
      counts = ap length (empty_words_lem layout);
    }
