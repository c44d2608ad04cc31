-- The answer of `fit_cut_in_rects` as the definitions' list.
use Rattle.std.specs.Prelude.{Bool, Option, Some, None, List, option_to_list, if◌then◌else◌}
use Rattle.std.specs.List.{flat_map}
use Rattle.model.specs.declared.FitResult.{FitResult}

-- the fits that are there, in order
abbrev pub fits_of : List (Option FitResult) → List FitResult
fits_of fits = flat_map option_to_list fits

-- a fit, where it is there
unfoldable pub if_lies : Bool → FitResult → Option FitResult
if_lies lies f = if lies then Some f else None
