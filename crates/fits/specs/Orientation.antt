-- The first step of `fit_cut_in_rects`: what the cut and the board settle.
use Rattle.std.specs.Prelude.{◌&&◌}
use Rattle.model.specs.declared.PatternDirection.{PatternDirection}
use Rattle.model.specs.declared.CutInstance.{CutInstance}
use Rattle.model.specs.Fit.{pattern_matches, rotate_pattern, turning_matters}
use Rattle.fits.specs.declared.patterns.Ways.{Ways}

-- the tests of fit_cut_in_rects that do not read the free rectangle
unfoldable pub ways_to_lie : CutInstance → PatternDirection → Ways
ways_to_lie cut stock_pattern =
    record {
      upright = pattern_matches cut.pattern stock_pattern;
      rotated = cut.can_rotate && turning_matters cut && pattern_matches (rotate_pattern cut.pattern) stock_pattern;
    }
