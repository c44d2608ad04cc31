-- Which way a cut can lie in a free rectangle: `fit_cut_in_rects` and what it calls.
use Rattle.std.specs.Prelude.{Bool, true, false, not, ◌&&◌, ◌||◌, List, [], ◌∷◌, ◌++◌, leb, eqb, if◌then◌else◌}
use Rattle.lists.specs.Base.{is_empty}
use Rattle.model.specs.Types.{PatternDirection, RotationPreference, Rect, StockInstance, CutInstance, FitResult, rect, stock_rect, pattern_code}

unfoldable pub same_pattern : PatternDirection → PatternDirection → Bool
same_pattern a b = eqb (pattern_code a) (pattern_code b)

-- pattern_matches
unfoldable pub pattern_matches : PatternDirection → PatternDirection → Bool
pattern_matches cut stock = same_pattern cut PatternDirection.None || same_pattern stock PatternDirection.None || same_pattern cut stock

-- rotate_pattern
unfoldable pub rotate_pattern : PatternDirection → PatternDirection
rotate_pattern PatternDirection.None = PatternDirection.None
rotate_pattern PatternDirection.ParallelToWidth = PatternDirection.ParallelToLength
rotate_pattern PatternDirection.ParallelToLength = PatternDirection.ParallelToWidth

-- the two halves of fit_cut_in_rects: whether the cut fits upright or turned, and how it then lies, at the corner
unfoldable pub upright_test : CutInstance → PatternDirection → Rect → Bool
upright_test cut stock_pattern free =
    pattern_matches cut.pattern stock_pattern && leb cut.width free.width && leb cut.length free.length

abbrev pub upright_result : CutInstance → Rect → FitResult
upright_result cut free = record { rect = rect free.x free.y cut.width cut.length; pattern = cut.pattern; rotated = false }

-- turning a square whose pattern stays the same changes nothing
unfoldable pub turning_matters : CutInstance → Bool
turning_matters cut = not (eqb cut.width cut.length) || not (same_pattern (rotate_pattern cut.pattern) cut.pattern)

unfoldable pub rotated_test : CutInstance → PatternDirection → Rect → Bool
rotated_test cut stock_pattern free =
    (cut.can_rotate && turning_matters cut)
    && (pattern_matches (rotate_pattern cut.pattern) stock_pattern && leb cut.length free.width && leb cut.width free.length)

abbrev pub rotated_result : CutInstance → Rect → FitResult
rotated_result cut free =
    record { rect = rect free.x free.y cut.length cut.width; pattern = rotate_pattern cut.pattern; rotated = true }

unfoldable pub upright_fit : CutInstance → PatternDirection → Rect → List FitResult
upright_fit cut stock_pattern free = if upright_test cut stock_pattern free then upright_result cut free ∷ [] else []

unfoldable pub rotated_fit : CutInstance → PatternDirection → Rect → List FitResult
rotated_fit cut stock_pattern free = if rotated_test cut stock_pattern free then rotated_result cut free ∷ [] else []

-- fit_cut_in_rects
unfoldable pub fit_cut_in_rects : CutInstance → PatternDirection → Rect → RotationPreference → List FitResult
fit_cut_in_rects cut stock_pattern free RotationPreference.PreferUpright = upright_fit cut stock_pattern free ++ rotated_fit cut stock_pattern free
fit_cut_in_rects cut stock_pattern free RotationPreference.PreferRotated = rotated_fit cut stock_pattern free ++ upright_fit cut stock_pattern free

-- cut_fits_stock
unfoldable pub cut_fits_stock : CutInstance → StockInstance → Bool
cut_fits_stock cut stock = not (is_empty (fit_cut_in_rects cut stock.pattern (stock_rect stock) RotationPreference.PreferUpright))
