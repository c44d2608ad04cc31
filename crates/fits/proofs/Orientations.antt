-- The two steps of `fit_cut_in_rects` together are the whole.
use Rattle.std.specs.Prelude.{if◌then◌else◌}
use mathlib.Core.Path.{◌≡◌, refl, sym, ap, ap₂, ◌∙◌}
use mathlib.Core.Bool.{Bool, true, false, not, ◌&&◌, ◌||◌}
use mathlib.Core.List.{List, [], ◌∷◌, ◌++◌}
use lib.Dec.{leb}
use Rattle.lists.specs.Base.{is_empty}
use Rattle.model.specs.declared.PatternDirection.{PatternDirection}
use Rattle.model.specs.declared.RotationPreference.{RotationPreference}
use Rattle.model.specs.declared.RotationPreference.TheVariants.{PreferUpright, PreferRotated}
use Rattle.model.specs.declared.Rect.{Rect}
use Rattle.model.specs.declared.CutInstance.{CutInstance}
use Rattle.model.specs.declared.StockInstance.{StockInstance}
use Rattle.model.specs.declared.FitResult.{FitResult}
use Rattle.model.specs.Types.{stock_rect}
use Rattle.model.specs.Fit.{pattern_matches, rotate_pattern, turning_matters, upright_test, rotated_test, upright_fit, rotated_fit, upright_result, rotated_result, fit_cut_in_rects, cut_fits_stock}
use Rattle.fits.specs.declared.patterns.Ways.{Ways}
use Rattle.fits.specs.Orientation.{ways_to_lie}
use Rattle.fits.specs.FitList.{fits_of, if_lies}
use Rattle.fits.specs.ByWays.{lies_upright, lies_rotated, lies_any_way, fits_in_order, fits_by_ways}

regroup : (a b c d : Bool) → (a && (b && c && d)) ≡ (a && b && c && d)
regroup true b c d = refl
regroup false b c d = refl

-- the fits of two ways
two_fits : (a b : Bool) (f g : FitResult) → fits_of (if_lies a f ∷ if_lies b g ∷ []) ≡ (if a then f ∷ [] else []) ++ (if b then g ∷ [] else [])
unfolding if_lies
two_fits true true f g = refl
two_fits true false f g = refl
two_fits false true f g = refl
two_fits false false f g = refl

module _ (cut : CutInstance) (stock : PatternDirection) (free : Rect) where
  upright_by_way : (if lies_upright (ways_to_lie cut stock) cut.width cut.length free.width free.length then upright_result cut free ∷ [] else []) ≡ upright_fit cut stock free
  unfolding lies_upright ways_to_lie upright_fit upright_test
  upright_by_way = refl

  rotated_by_way : (if lies_rotated (ways_to_lie cut stock) cut.width cut.length free.width free.length then rotated_result cut free ∷ [] else []) ≡ rotated_fit cut stock free
  unfolding lies_rotated ways_to_lie rotated_fit rotated_test
  rotated_by_way =
      ap (λ (b : Bool). if b then rotated_result cut free ∷ [] else [])
      (sym (regroup (cut.can_rotate && turning_matters cut) (pattern_matches (rotate_pattern cut.pattern) stock) (leb cut.length free.width) (leb cut.width free.length)))

  pub fits_by_ways_all : (rotation : RotationPreference) → fits_by_ways (ways_to_lie cut stock) cut free rotation ≡ fit_cut_in_rects cut stock free rotation
  unfolding fits_in_order fit_cut_in_rects
  fits_by_ways_all PreferUpright = two_fits _ _ _ _ ∙ ap₂ (λ (k l : List FitResult). k ++ l) upright_by_way rotated_by_way
  fits_by_ways_all PreferRotated = two_fits _ _ _ _ ∙ ap₂ (λ (k l : List FitResult). k ++ l) rotated_by_way upright_by_way

-- some fit is there exactly if the cut lies in some way
either_there : (a b : Bool) (f g : FitResult) → not (is_empty (fits_of (if_lies a f ∷ if_lies b g ∷ []))) ≡ (a || b)
unfolding if_lies
either_there true b f g = refl
either_there false true f g = refl
either_there false false f g = refl

either_comm : (a b : Bool) → (a || b) ≡ (b || a)
either_comm true true = refl
either_comm true false = refl
either_comm false true = refl
either_comm false false = refl

pub any_way : (ways : Ways) (cut : CutInstance) (free : Rect) (rotation : RotationPreference)
    → not (is_empty (fits_by_ways ways cut free rotation)) ≡ lies_any_way ways cut.width cut.length free.width free.length
unfolding fits_in_order lies_any_way
any_way ways cut free PreferUpright = either_there _ _ _ _
any_way ways cut free PreferRotated =
    let upright = lies_upright ways cut.width cut.length free.width free.length in
    let rotated = lies_rotated ways cut.width cut.length free.width free.length in
    either_there rotated upright _ _ ∙ either_comm rotated upright

pub fits_stock : (cut : CutInstance) (stock : StockInstance)
    → lies_any_way (ways_to_lie cut stock.pattern) cut.width cut.length stock.width stock.length ≡ cut_fits_stock cut stock
unfolding cut_fits_stock
fits_stock cut stock =
    sym (any_way (ways_to_lie cut stock.pattern) cut (stock_rect stock) PreferUpright)
    ∙ ap (λ (l : List FitResult). not (is_empty l)) (fits_by_ways_all cut stock.pattern (stock_rect stock) PreferUpright)
