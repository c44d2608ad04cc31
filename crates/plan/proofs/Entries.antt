-- One sheet more in the plan: its entry behind the others', its body behind the others', its areas noted.
use Prim.Native.Nat.{ℕ, ◌+◌, ◌-◌, ◌*◌, ◌≤◌}
use native.Mathlib.Nat.{add-zero}
use native.Mathlib.Omega.{arith}
use mathlib.Core.Path.{◌≡◌, refl, sym, ap, ap₂, ◌∙◌}
use mathlib.Core.List.{List, [], ◌∷◌, ◌++◌, map, append-nil}
use borrow.Rule.Slice.PartMut.{put_mid}
use lib.ListN.{length, take, drop, length-append}
use Rattle.lists.specs.Base.{concat_map}
use Rattle.lists.specs.Parts.{patch}
use Rattle.lists.proofs.Sums.{length-map, map_append}
use Rattle.lists.proofs.Maps.{concat_map_append}
use Rattle.lists.proofs.Parts.{length_patch, patch_nil, patch_append}
use Rattle.trust.proofs.RoundTrip.{contents_length, contents_append}
use Rattle.model.specs.Sheet.{GuillotineSheet}
use Rattle.model.specs.Plan.{sheet_words, contents_from}
use Rattle.candidate.specs.declared.fitness.SheetAreas.{SheetAreas}
use Rattle.candidate.specs.Areas.{areas_of}
use Rattle.plan.specs.declared.sheet_plan.Body.{Body}
use Rattle.plan.specs.Replaying.{WritesSheet}
use Rattle.plan.proofs.sheet_plan.Parts.{patch_behind}
use Rattle.plan.specs.Sheets.{bodies_of, WritesFrom}
use Rattle.plan.proofs.Swaps.{patch_swap}

-- ---- contents and bodies

module _ (sheets : List GuillotineSheet) (s : GuillotineSheet) where
  pub bodies_more : bodies_of (sheets ++ (s ∷ [])) ≡ bodies_of sheets ++ sheet_words s
  unfolding concat_map
  bodies_more =
      ap (concat_map (λ (b : List ℕ). b)) (map_append sheet_words sheets (s ∷ []))
      ∙ concat_map_append (λ (b : List ℕ). b) (map sheet_words sheets) (sheet_words s ∷ [])
      ∙ ap (λ (r : List ℕ). bodies_of sheets ++ r) (append-nil (sheet_words s))

  contents_more : (start : ℕ) → contents_from start (map sheet_words (sheets ++ (s ∷ []))) ≡ contents_from start (map sheet_words sheets) ++ ((start + length (bodies_of sheets)) ∷ length (sheet_words s) ∷ [])
  unfolding contents_from
  contents_more start = ap (contents_from start) (map_append sheet_words sheets (s ∷ [])) ∙ contents_append start (map sheet_words sheets) (sheet_words s ∷ [])

-- ---- the turns of the loop

module _ (start : ℕ) (before : List ℕ) where
  pub writes_none : WritesFrom start [] before before start []
  unfolding contents_from concat_map
  writes_none =
      record {
        words = patch_nil before 4 ∙ patch_nil (patch before 4 []) start;
        ends = omega arith;
        noted = refl;
      }

  module _ (sheets : List GuillotineSheet) (s : GuillotineSheet) (plan part : List ℕ) (at : ℕ) (areas : List SheetAreas) (b : Body)
      (so : WritesFrom start sheets before plan at areas) (body : WritesSheet s (take (length plan - at) (drop at plan)) part b)
      (room : 4 + 2 * length sheets + 2 ≤ start) (fits : at + b.size ≤ length before) where
    abbrev with_part : List ℕ
    with_part = put_mid at (length plan - at) plan part

    abbrev entries : List ℕ
    entries = contents_from start (map sheet_words sheets)

    entries_length : length entries ≡ 2 * length sheets
    entries_length = omega (arith, contents_length start (map sheet_words sheets), length-map sheet_words sheets)

    reach : start + length (bodies_of sheets) + length (sheet_words s) ≤ length before
    reach = omega (arith, so.ends, body.size)

    with_entries : length (patch before 4 entries) ≡ length before
    with_entries = length_patch before 4 entries (omega (arith, entries_length, reach))

    with_body : with_part ≡ patch (patch before 4 entries) start (bodies_of (sheets ++ (s ∷ [])))
    with_body =
        patch_behind plan at 0 (sheet_words s) part body.words
        ∙ ap₂ (λ (l : List ℕ) (m : ℕ). patch l m (sheet_words s)) so.words (add-zero at)
        ∙ patch_append (patch before 4 entries) start (bodies_of sheets) (sheet_words s) at so.ends (omega (arith, with_entries, reach))
        ∙ ap (patch (patch before 4 entries) start) (sym (bodies_more sheets s))

    pub writes_more : (plan₂ : List ℕ) → plan₂ ≡ patch with_part (4 + 2 * length sheets) (at ∷ b.size ∷ [])
        → WritesFrom start (sheets ++ (s ∷ [])) before plan₂ (at + b.size) (areas ++ (b.areas ∷ []))
    writes_more plan₂ e =
        let entry : List ℕ = at ∷ b.size ∷ [] in
        let bodies : length (bodies_of (sheets ++ (s ∷ []))) ≡ length (bodies_of sheets) + length (sheet_words s) = ap length (bodies_more sheets s) ∙ length-append (bodies_of sheets) (sheet_words s) in
        let behind : 4 + 2 * length sheets ≡ 4 + length entries = omega (arith, entries_length) in
        let same : entries ++ entry ≡ contents_from start (map sheet_words (sheets ++ (s ∷ []))) =
        ap₂ (λ (m n : ℕ). entries ++ (m ∷ n ∷ [])) so.ends body.size ∙ sym (contents_more sheets s start)
        in
        record {
          words =
              e
              ∙ ap (λ (l : List ℕ). patch l (4 + 2 * length sheets) entry) with_body
              ∙ patch_swap (patch before 4 entries) start (4 + 2 * length sheets) (bodies_of (sheets ++ (s ∷ []))) entry room (omega (arith, with_entries, reach))
              ∙ ap (λ (l : List ℕ). patch l start (bodies_of (sheets ++ (s ∷ [])))) (patch_append before 4 entries entry (4 + 2 * length sheets) behind (omega (arith, entries_length, reach)) ∙ ap (patch before 4) same);
          ends = omega (arith, body.size, so.ends);
          noted = ap₂ (λ (l : List SheetAreas) (x : SheetAreas). l ++ (x ∷ [])) so.noted body.areas ∙ sym (map_append areas_of sheets (s ∷ []));
        }
