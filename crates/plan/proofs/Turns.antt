-- The sheets of a candidate, one after the other.
use Prim.Native.Nat.{ℕ, ◌+◌, ◌-◌, ◌*◌, ◌/◌, ◌%◌, ◌^◌, ◌≤◌, ◌<◌}
use native.Mathlib.Numerals.{add-one}
use native.Mathlib.Omega.{arith}
use mathlib.Core.Path.{◌≡◌, sym, ap, ◌∙◌}
use mathlib.Core.List.{List, [], ◌∷◌, ◌++◌, map}
use mathlib.Core.Option
use borrow.Rule.Slice.PartMut.{put_mid}
use lib.ListN.{length, get_or, take, drop, length-append, take-append-drop}
use lib.Seq.{length-take-le, take-length, get_or-take}
use lib.Ieee.{Float, binary64, to_bits}
use Rattle.lists.specs.Base.{concat_map}
use Rattle.lists.specs.Parts.{patch}
use Rattle.lists.proofs.Sums.{map_append}
use Rattle.lists.proofs.Maps.{concat_map_append, map_next}
use Rattle.model.specs.Outcome.{least_plan}
use Rattle.model.specs.declared.LayoutKind.{LayoutKind}
use Rattle.model.specs.Sheet.{GuillotineSheet}
use Rattle.model.specs.Fitness.{fitness, positive_zero, one}
use Rattle.model.specs.Expand.{ProblemInstance}
use Rattle.model.specs.Plan.{sheet_words}
use Rattle.trust.specs.Admitted.{Ranged}
use Rattle.trust.proofs.PlanSize.{body_words, plan_length}
use Rattle.candidate.specs.declared.fitness.SheetAreas.{SheetAreas}
use Rattle.candidate.specs.Areas.{board_areas, fitness_of, WithinBoards}
use Rattle.candidate.specs.declared.Candidate.{Candidate as Words}
use Rattle.candidate.specs.Stands.{Stands, bin_in, sheet_boards, placed_words, candidate_in}
use Rattle.candidate.proofs.Standing.{length_sheets}
use Rattle.plan.specs.declared.sheet_plan.Body.{Body}
use Rattle.plan.specs.Replaying.{WritesSheet}
use Rattle.plan.specs.declared.Bodies.{Bodies}
use Rattle.plan.specs.Sheets.{Plans, candidate_plan, bodies_of, WritesFrom, WritesSheets}
use Rattle.plan.proofs.Rebuilding.{bins_length, plan_fits, inside, areas_most}
use Rattle.plan.proofs.Entries.{bodies_more, writes_more}
use Rattle.plan.proofs.Whole.{noted_fitness, written}

-- the first bodies are no longer than all
bodies_first : (j : ℕ) (sheets : List GuillotineSheet) → length (bodies_of (take j sheets)) ≤ length (bodies_of sheets)
bodies_first j sheets =
    omega (
      arith,
      ap (λ (l : List GuillotineSheet). length (bodies_of l)) (take-append-drop j sheets),
      ap length (ap (concat_map (λ (b : List ℕ). b)) (map_append sheet_words (take j sheets) (drop j sheets)) ∙ concat_map_append (λ (b : List ℕ). b) (map sheet_words (take j sheets)) (map sheet_words (drop j sheets))),
      length-append (bodies_of (take j sheets)) (bodies_of (drop j sheets)),
    )

module _ (inst : ProblemInstance) (r : Ranged inst) (k : Words) (st : Stands inst [] k) where
  abbrev bins : List GuillotineSheet
  bins = (candidate_in inst k).bins

  bodies_fit : 4 + 2 * k.sheets + length (bodies_of bins) ≤ 4420
  unfolding body_words
  bodies_fit = omega (arith, plan_fits inst r k st LayoutKind.Guillotine one, plan_length LayoutKind.Guillotine one bins, bins_length inst r k st)

  module _ (j : ℕ) (h : j < k.sheets) where
    abbrev next : GuillotineSheet
    next = bin_in inst (placed_words k) (get_or k.boards j 0)

    one_more : take (j + 1) bins ≡ take j bins ++ (next ∷ [])
    unfolding candidate_in
    one_more =
        ap (λ (m : ℕ). take m bins) (add-one j)
        ∙ map_next (bin_in inst (placed_words k)) (sheet_boards k) j (omega (arith, length_sheets inst [] k st r))
        ∙ ap (λ (b : ℕ). take j bins ++ (bin_in inst (placed_words k) b ∷ [])) (get_or-take k.sheets k.boards j 0 h)

    first_count : length (take j bins) ≡ j
    first_count = length-take-le j bins (omega (arith, bins_length inst r k st))

    module _ (before plan : List ℕ) (room : least_plan ≤ length before) (at : ℕ) (areas : List SheetAreas) (so : WritesFrom (4 + 2 * k.sheets) (take j bins) before plan at areas) where
      pub ahead : at + length (sheet_words next) ≤ 4420
      ahead =
          omega (
            arith,
            so.ends,
            bodies_fit,
            bodies_first (j + 1) bins,
            ap (λ (l : List GuillotineSheet). length (bodies_of l)) one_more,
            ap length (bodies_more (take j bins) next),
            length-append (bodies_of (take j bins)) (sheet_words next),
          )

      pub turn : (part plan₁ : List ℕ) (b : Body) → WritesSheet next (take (length plan - at) (drop at plan)) part b
          → plan₁ ≡ patch (put_mid at (length plan - at) plan part) (4 + 2 * j) (at ∷ b.size ∷ [])
          → WritesFrom (4 + 2 * k.sheets) (take (j + 1) bins) before plan₁ (at + b.size) (areas ++ (b.areas ∷ []))
      turn part plan₁ b body e =
          rw one_more
          (writes_more (4 + 2 * k.sheets) before (take j bins) next plan part at areas b so body (omega (arith, first_count)) (omega (arith, body.size, ahead)) plan₁
          (e ∙ ap (λ (m : ℕ). patch (put_mid at (length plan - at) plan part) (4 + 2 * m) (at ∷ b.size ∷ [])) (sym first_count)))

  pub all_written : (before plan : List ℕ) (at : ℕ) (areas : List SheetAreas) (j : ℕ) → j ≡ k.sheets → WritesFrom (4 + 2 * k.sheets) (take j bins) before plan at areas
      → WritesFrom (4 + 2 * length bins) bins before plan at areas
  all_written before plan at areas j e so =
      let n : length bins ≡ k.sheets = bins_length inst r k st in
      let all : take j bins ≡ bins = ap (λ (m : ℕ). take m bins) (e ∙ sym n) ∙ take-length bins in
      rw n (rw all at so)

  -- ---- the whole plan

  module _ (before plan : List ℕ) (b : Bodies) (so : WritesSheets bins before plan b) where
    pub areas_held : (board_areas b.areas.items ≤ 2 ^ 53) × WithinBoards b.areas.items
    areas_held = (rw so.noted (areas_most inst r k st), rw so.noted (inside inst r k st))

    pub plan_written : (plan₁ : List ℕ) (bits low high : ℕ) → bits ≡ to_bits binary64 (Option.get_or (fitness_of b.areas.items) positive_zero)
        → low ≡ bits % 2 ^ 32 → high ≡ bits / 2 ^ 32 → plan₁ ≡ patch plan 0 (k.sheets ∷ low ∷ high ∷ 0 ∷ []) → least_plan ≤ length before
        → Plans (candidate_plan (candidate_in inst k)) before plan₁ b.end
    plan_written plan₁ bits low high e l h w room =
        let f : Float = Option.get_or (fitness bins) positive_zero in
        let bits_are : bits ≡ to_bits binary64 f = e ∙ ap (to_bits binary64) (noted_fitness bins (4 + 2 * length bins) b.end before plan b.areas.items so) in
        written LayoutKind.Guillotine f bins before plan plan₁ b.end b.areas.items k.sheets bits low high so (sym (bins_length inst r k st)) bits_are l h w
        (omega (arith, plan_fits inst r k st LayoutKind.Guillotine f))
