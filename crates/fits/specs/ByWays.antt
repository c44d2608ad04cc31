-- The second step of `fit_cut_in_rects`: what the free rectangle settles, the open ways known.
use Rattle.std.specs.Prelude.{ℕ, Bool, ◌&&◌, ◌||◌, Option, List, [], ◌∷◌, leb}
use Rattle.model.specs.declared.RotationPreference.{RotationPreference}
use Rattle.model.specs.declared.RotationPreference.TheVariants.{PreferUpright, PreferRotated}
use Rattle.model.specs.declared.Rect.{Rect}
use Rattle.model.specs.declared.CutInstance.{CutInstance}
use Rattle.model.specs.declared.FitResult.{FitResult}
use Rattle.model.specs.Fit.{upright_result, rotated_result}
use Rattle.fits.specs.declared.patterns.Ways.{Ways}
use Rattle.fits.specs.FitList.{fits_of, if_lies}

-- the two tests that read the free rectangle, for a cut of that width and length
unfoldable pub lies_upright : Ways → (width length free_width free_length : ℕ) → Bool
lies_upright ways width length free_width free_length = ways.upright && leb width free_width && leb length free_length

unfoldable pub lies_rotated : Ways → (width length free_width free_length : ℕ) → Bool
lies_rotated ways width length free_width free_length = ways.rotated && leb length free_width && leb width free_length

unfoldable pub lies_any_way : Ways → (width length free_width free_length : ℕ) → Bool
lies_any_way ways width length free_width free_length =
    lies_upright ways width length free_width free_length || lies_rotated ways width length free_width free_length

-- the preferred way before the other, each with its fit where the cut lies so
unfoldable pub fits_in_order : Ways → CutInstance → Rect → RotationPreference → List (Option FitResult)
fits_in_order ways cut free PreferUpright =
    if_lies (lies_upright ways cut.width cut.length free.width free.length) (upright_result cut free)
    ∷ if_lies (lies_rotated ways cut.width cut.length free.width free.length) (rotated_result cut free)
    ∷ []
fits_in_order ways cut free PreferRotated =
    if_lies (lies_rotated ways cut.width cut.length free.width free.length) (rotated_result cut free)
    ∷ if_lies (lies_upright ways cut.width cut.length free.width free.length) (upright_result cut free)
    ∷ []

abbrev pub fits_by_ways : Ways → CutInstance → Rect → RotationPreference → List FitResult
fits_by_ways ways cut free rotation = fits_of (fits_in_order ways cut free rotation)
