-- The derived `==` of patterns is the definitions' `same_pattern`.
use Rattle.std.proofs.Common.{◌≡◌, refl}
use denote.Enum.Bare.{sameb}
use Rattle.model.specs.contracts.PatternDirection.{the_type}
use Rattle.model.specs.declared.PatternDirection.{PatternDirection}
use Rattle.model.specs.Fit.{same_pattern}

pub same_is : (a b : PatternDirection) → sameb the_type a b ≡ same_pattern a b
unfolding same_pattern
same_is PatternDirection.None PatternDirection.None = refl
same_is PatternDirection.None PatternDirection.ParallelToWidth = refl
same_is PatternDirection.None PatternDirection.ParallelToLength = refl
same_is PatternDirection.ParallelToWidth PatternDirection.None = refl
same_is PatternDirection.ParallelToWidth PatternDirection.ParallelToWidth = refl
same_is PatternDirection.ParallelToWidth PatternDirection.ParallelToLength = refl
same_is PatternDirection.ParallelToLength PatternDirection.None = refl
same_is PatternDirection.ParallelToLength PatternDirection.ParallelToWidth = refl
same_is PatternDirection.ParallelToLength PatternDirection.ParallelToLength = refl

pub none_is : (a : PatternDirection) → sameb the_type a PatternDirection.None ≡ same_pattern a PatternDirection.None
none_is a = same_is a PatternDirection.None
