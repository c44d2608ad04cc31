-- The loop over the sheets: what is left, added to what is summed, gives what the whole gives.
use Rattle.std.proofs.Common.{◌≡◌, ℕ, ◌+◌, ◌<◌, ◌≤◌, List, length, get_or, drop, eq-eqb, ne_eqb, Option, Some, None, unwrap_or}
use Rattle.std.proofs.Math.Option as Defined
use lib.ListN.{drop_of_length-le}
use lib.Ieee.{Float, binary64, add, div}
use Rattle.lists.specs.Base.{sum}
use Rattle.lists.specs.Language.{option_of}
use Rattle.lists.proofs.Arrays.{drop_next}
use Rattle.model.specs.Fitness.{weight, positive_zero}
use Rattle.candidate.specs.declared.fitness.SheetAreas.{SheetAreas}
use Rattle.candidate.specs.Areas.{weighted_share, add_shares, board_areas, fitness_of}

module _ (sheets : List SheetAreas) (i : ℕ) where
  pub shares_step : (s : Float) (d : SheetAreas) → i < length sheets → add_shares (add binary64 s (weighted_share (get_or sheets i d))) (drop (i + 1) sheets) ≡ add_shares s (drop i sheets)
  unfolding add_shares
  shares_step s d h = rw (drop_next sheets i d h)

  pub shares_end : (s : Float) → length sheets ≤ i → s ≡ add_shares s (drop i sheets)
  unfolding add_shares
  shares_end s h = rw (drop_of_length-le sheets h)

  pub boards_step : (d : SheetAreas) → i < length sheets → board_areas (drop i sheets) ≡ (get_or sheets i d).board + board_areas (drop (i + 1) sheets)
  unfolding sum
  boards_step d h = rw (drop_next sheets i d h)

  pub boards_end : length sheets ≤ i → board_areas (drop i sheets) ≡ 0
  unfolding sum
  boards_end h = rw (drop_of_length-le sheets h)

module _ (sheets : List SheetAreas) where
  pub fitness_none : board_areas sheets ≡ 0 → Defined.none ≡ fitness_of sheets
  unfolding fitness_of
  fitness_none h = rw (eq-eqb (board_areas sheets) 0 h)

  pub fitness_some : (board_areas sheets ≡ 0 → ⊥) → Defined.some (div binary64 (add_shares positive_zero sheets) (weight (board_areas sheets))) ≡ fitness_of sheets
  unfolding fitness_of
  fitness_some h = rw (ne_eqb (board_areas sheets) 0 h)

-- the fitness, or zero where there is none, is the definitions'
pub or_zero : (o : Option Float) (f : Defined.Option Float) → option_of o ≡ f → unwrap_or o positive_zero ≡ Defined.get_or f positive_zero
or_zero None f e = rw (← e)
or_zero (Some x) f e = rw (← e)
