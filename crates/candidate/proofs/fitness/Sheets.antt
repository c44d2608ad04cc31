-- The definition's fitness depends only on the sheets' placed areas and board areas.
use Rattle.std.specs.Prelude.{if◌then◌else◌}
use Rattle.std.proofs.Common.{◌≡◌, ℕ, ◌+◌, ◌<◌, ◌≤◌, eqb, List, [], ◌∷◌, map, length, refl, ap, sym, ◌∙◌, arith, ne_eqb}
use mathlib.Core.Option.{none, some, get_or}
use lib.Dec.{eqb-suc-zero}
use lib.Ieee.{Float, binary64, add}
use Rattle.lists.specs.Base.{sum, foldl}
use Rattle.lists.specs.Elements.{All}
use Rattle.lists.proofs.Maps.{map-map}
use Rattle.model.specs.Types.{stock_area}
use Rattle.model.specs.Sheet.{GuillotineSheet, placed_area}
use Rattle.model.specs.Fitness.{positive_zero, sheet_fitness, weighted_fitness, used_stock_area, fitness}
use Rattle.candidate.specs.Areas.{areas_of, share_of, weighted_share, add_shares, board_areas, fitness_of, WithinBoards}

abbrev pub board_area : GuillotineSheet → ℕ
board_area sheet = stock_area sheet.stock

pub sheet_fitness_areas : (s : GuillotineSheet) → sheet_fitness s ≡ share_of (areas_of s)
unfolding sheet_fitness share_of
sheet_fitness_areas s = refl

pub used_stock_area_areas : (bins : List GuillotineSheet) → used_stock_area bins ≡ board_areas (map areas_of bins)
unfolding used_stock_area
used_stock_area_areas bins = ap sum (sym (map-map (λ s. s.board) areas_of bins))

weighted_areas : (s : GuillotineSheet) → weighted_fitness s ≡ weighted_share (areas_of s)
unfolding weighted_fitness sheet_fitness weighted_share share_of
weighted_areas s = refl

shares_areas : (bins : List GuillotineSheet) (s : Float) → foldl (add binary64) s (map weighted_fitness bins) ≡ add_shares s (map areas_of bins)
unfolding foldl add_shares
shares_areas [] s = refl
shares_areas (b ∷ bins) s = shares_areas bins (add binary64 s (weighted_fitness b)) ∙ ap (λ (x : Float). add_shares (add binary64 s x) (map areas_of bins)) (weighted_areas b)

pub fitness_areas : (bins : List GuillotineSheet) → fitness bins ≡ fitness_of (map areas_of bins)
unfolding fitness fitness_of
fitness_areas bins = rw (used_stock_area_areas bins, shares_areas bins positive_zero)

-- no sheet has more placed on it than its board's area
pub inside_areas : (bins : List GuillotineSheet) → All (λ b. placed_area b ≤ board_area b) bins → WithinBoards (map areas_of bins)
inside_areas [] h = tt
inside_areas (b ∷ bins) h = (h.0, inside_areas bins h.1)

-- boards have an area, so that a candidate has a fitness exactly if it has a sheet
pub fitness_counted : (bins : List GuillotineSheet) → All (λ b. 0 < board_area b) bins
    → (if eqb (length bins) 0 then none else some (get_or (fitness bins) positive_zero)) ≡ fitness bins
unfolding fitness used_stock_area sum
fitness_counted [] h = refl
fitness_counted (b ∷ bins) h =
    rw (eqb-suc-zero (length bins), ne_eqb (board_area b + sum (map board_area bins)) 0 (λ e. not_zero (board_area b) (sum (map board_area bins)) h.0 e))
  where
    not_zero : (m n : ℕ) → 0 < m → m + n ≡ 0 → ⊥
    not_zero m n k e = omega arith
