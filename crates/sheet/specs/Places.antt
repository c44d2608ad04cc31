-- The search for the best place: the places that are looked at, and what is best so far.
use Rattle.std.specs.Prelude.{ℕ, suc, ◌≡◌, ◌≤◌, ◌<◌, Bool, false, true, Option, Some, None, IfSome, unwrap_or, length, get_or, List, [], ◌∷◌, ◌++◌, map}
use Rattle.std.proofs.Math.Option as Defined
use Rattle.lists.specs.Base.{keep_best, first_best}
use Rattle.model.specs.declared.PatternDirection.{PatternDirection}
use Rattle.model.specs.declared.RotationPreference.{RotationPreference}
use Rattle.model.specs.declared.BaselineGuillotineHeuristic.{BaselineGuillotineHeuristic}
use Rattle.model.specs.declared.Rect.{Rect}
use Rattle.model.specs.declared.CutInstance.{CutInstance}
use Rattle.model.specs.declared.FitResult.{FitResult}
use Rattle.model.specs.Choice.{free_rect_choice_score}
use Rattle.model.specs.Sheet.{GuillotineSheet, Place, score_less, best_place}
use Rattle.fits.specs.declared.patterns.Ways.{Ways}
use Rattle.fits.specs.ByWays.{lies_any_way, fits_by_ways}
use Rattle.fits.specs.Numbers.{score_numbers}
use Rattle.sheet.specs.declared.best_place.ScoredPlace.{ScoredPlace}
use Rattle.model.specs.Types.{no_rect}

-- of the rectangles from an index on, the first in which a cut of these sides lies
abbrev pub LiesIn : Ways → (width len : ℕ) → List Rect → ℕ → Bool → Type 0
LiesIn ways width len rects k b = lies_any_way ways width len (get_or rects k no_rect).width (get_or rects k no_rect).length ≡ b

pub record IsNextFit (rects : List Rect) (ways : Ways) (width len from : ℕ) (r : Option ℕ) : Type 0 where
  pub fits : IfSome r (λ k. (from ≤ k) × (k < length rects) × LiesIn ways width len rects k true)
  pub none_before : (k : ℕ) → from ≤ k → k < unwrap_or r (length rects) → LiesIn ways width len rects k false

abbrev pub place_at : ℕ → Rect → FitResult → Place
place_at k r f = record { index = k; free_rect = r; fit = f }

-- `places` of the definition, in the ways that are open, for a list whose first rectangle has number i
unfoldable pub places_by_ways : Ways → CutInstance → RotationPreference → ℕ → List Rect → List Place
places_by_ways ways cut rotation i [] = []
places_by_ways ways cut rotation i (r ∷ rs) = map (place_at i r) (fits_by_ways ways cut r rotation) ++ places_by_ways ways cut rotation (suc i) rs

-- `first_best` of the definition, with what is best so far
unfoldable pub best_over : {A : Type 0} → (A → A → Bool) → Defined.Option A → List A → Defined.Option A
best_over better Defined.none xs = first_best better xs
best_over better (Defined.some x) xs = Defined.some (keep_best better x xs)

-- ---- the answer

abbrev pub place_of : Option ScoredPlace → Defined.Option Place
place_of None = Defined.none
place_of (Some p) = Defined.some (place_at p.index p.free_rect p.fit)

abbrev pub Scored : BaselineGuillotineHeuristic → Option ScoredPlace → Type 0
Scored h None = Unit
Scored h (Some p) = score_numbers p.score ≡ free_rect_choice_score p.free_rect p.fit.rect h.rect_choice

-- the best of what was best before and of further places
pub record Over (h : BaselineGuillotineHeuristic) (before : Option ScoredPlace) (further : List Place) (r : Option ScoredPlace) : Type 0 where
  pub place : place_of r ≡ best_over (score_less h) (place_of before) further
  pub scored : Scored h r

-- the rectangles are the sheet's, the pattern is its board's
pub record Shows (free : List Rect) (pattern : PatternDirection) (sheet : GuillotineSheet) : Type 0 where
  pub rects : sheet.free_rects ≡ free
  pub grain : sheet.stock.pattern ≡ pattern

-- the sheet that has nothing but the rectangles, on a board of no size
abbrev pub sheet_with : List Rect → PatternDirection → GuillotineSheet
sheet_with rects pattern =
    record {
      stock = record { stock_id = 0; instance = 0; width = 0; length = 0; pattern = pattern };
      free_rects = rects;
      placed_pieces = [];
      slicing_tree = Defined.none;
    }

-- the best place of the cut among the rectangles
pub record FindsBest (rects : List Rect) (cut : CutInstance) (pattern : PatternDirection) (h : BaselineGuillotineHeuristic) (r : Option ScoredPlace) : Type 0 where
  pub place : place_of r ≡ best_place (sheet_with rects pattern) (record { cut = cut; heuristic = h })
  pub scored : Scored h r
