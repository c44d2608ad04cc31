-- The score of a candidate of words, by the areas of its sheets.
use Rattle.std.specs.Prelude.{sum_by, Option as Found}
use Rattle.std.proofs.lemmas.List.Sums.{sum_by-cons}
use Prim.Native.Nat.{ℕ, ◌+◌, ◌-◌, ◌≤◌}
use native.Mathlib.Omega.{arith}
use mathlib.Core.Path.{◌≡◌, refl, sym, ap, ◌∙◌}
use mathlib.Core.List.{List, [], ◌∷◌, map}
use mathlib.Core.Option.{some}
use lib.ListN.{length}
use lib.Ieee.{Float}
use Rattle.lists.specs.Base.{sum}
use Rattle.lists.specs.Language.{option_of}
use Rattle.lists.proofs.Sums.{length-map}
use Rattle.lists.proofs.Maps.{map-map}
use Rattle.model.specs.Sheet.{GuillotineSheet}
use Rattle.model.specs.Fitness.{used_stock_area, fitness}
use Rattle.model.specs.Expand.{ProblemInstance}
use Rattle.trust.specs.Limits.{most_areas}
use Rattle.trust.proofs.Scores.{placed_areas, placed_areas_most, score_is}
use Rattle.trust.proofs.CandidateSize.{candidate_counts}
use Rattle.candidate.specs.declared.fitness.SheetAreas.{SheetAreas}
use Rattle.candidate.specs.Areas.{areas_of, board_areas, fitness_of}
use Rattle.candidate.specs.Scores.{score_of}
use Rattle.candidate.proofs.fitness.Sheets.{used_stock_area_areas, fitness_areas}
use Rattle.project.specs.Problem.{Sound}
use Rattle.candidate.specs.declared.Candidate.{Candidate as Words}
use Rattle.candidate.specs.Stands.{bin_in, placed_words, sheet_boards, candidate_in, Stands}
use Rattle.candidate.proofs.Standing.{length_sheets}
use Rattle.candidate.specs.OnSheets.{AreasOf, score_in}

-- the language's sums are the definitions'
sum_by_sum : {A : Type 0} (f : A → ℕ) (l : List A) → sum_by f l ≡ sum (map f l)
unfolding sum
sum_by_sum f [] = refl
sum_by_sum f (x ∷ l) = sum_by-cons f x l ∙ ap (λ (n : ℕ). f x + n) (sum_by_sum f l)

sum_by_board : (l : List SheetAreas) → sum_by (λ s. s.board) l ≡ board_areas l
sum_by_board l = sum_by_sum (λ s. s.board) l

sum_by_placed : (l : List SheetAreas) → sum_by (λ s. s.placed) l ≡ sum (map (λ s. s.placed) l)
sum_by_placed l = sum_by_sum (λ s. s.placed) l

module _ (inst : ProblemInstance) (c : Words) (sound : Sound inst) (s : Stands inst [] c) where
  abbrev bins : List GuillotineSheet
  bins = (candidate_in inst c).bins

  pub bin_count : length bins ≡ c.sheets
  unfolding candidate_in
  bin_count = length-map (bin_in inst (placed_words c)) (sheet_boards c) ∙ length_sheets inst [] c s sound.ranged

  module _ (sheets : List SheetAreas) (of : AreasOf sheets bins) where
    used : sum_by (λ s. s.board) sheets ≡ used_stock_area bins
    used = sum_by_board sheets ∙ ap board_areas of ∙ sym (used_stock_area_areas bins)

    cut : sum_by (λ s. s.placed) sheets ≡ placed_areas bins
    unfolding placed_areas
    cut = sum_by_placed sheets ∙ ap (λ (l : List SheetAreas). sum (map (λ s. s.placed) l)) of ∙ ap sum (map-map (λ s. s.placed) areas_of bins)

    pub used_most : sum_by (λ s. s.board) sheets ≤ most_areas
    used_most = omega (arith, used, (candidate_counts inst sound.ranged [] (candidate_in inst c) s.proper).area)

    pub boards_most : board_areas sheets ≤ most_areas
    boards_most = omega (arith, used_most, sum_by_board sheets)

    pub cut_most : sum_by (λ s. s.placed) sheets ≤ sum_by (λ s. s.board) sheets
    cut_most = omega (arith, used, cut, placed_areas_most inst.kerf_width bins s.proper.kept.sheets)

    pub score_words : (waste : ℕ) (f : Found Float) → waste ≡ sum_by (λ s. s.board) sheets - sum_by (λ s. s.placed) sheets
        → option_of f ≡ fitness_of sheets
        → score_in inst c ≡ some (score_of (record { used_stock_count = c.sheets; waste_area = waste; fitness = f }))
    unfolding score_of
    score_words waste f e g =
        let w : used_stock_area bins - placed_areas bins ≡ waste = omega (arith, used, cut, e) in
        let same : fitness bins ≡ option_of f = fitness_areas bins ∙ ap fitness_of (sym of) ∙ sym g in
        score_is inst (candidate_in inst c) sound.admitted s.proper ∙ (λ i. some (record { used_stock_count = bin_count i; waste_area = w i; fitness = same i }))
