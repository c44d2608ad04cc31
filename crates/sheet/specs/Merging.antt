-- The answers of the scan for a pair, by the definition's values, and what a scan needs.
use Rattle.std.specs.Prelude.{ℕ, ◌≤◌, ◌≡◌, Bool, List, take, Option, Some, None}
use Rattle.std.proofs.Math.Option as Defined
use Rattle.model.specs.declared.Rect.{Rect}
use Rattle.model.specs.Refusal.{most_side}
use Rattle.model.specs.Merge.{Pair, merge_adjacent_rects, first_pair}
use Rattle.lists.specs.Base.{is_some, any}
use Rattle.lists.specs.Elements.{All}
use Rattle.sheet.specs.declared.merging.FoundPair.{FoundPair}
use Rattle.sheet.specs.Bounds.{Small}

abbrev pub pair_of : Option FoundPair → Defined.Option Pair
pair_of None = Defined.none
pair_of (Some p) = Defined.some (record { left = p.left; right = p.right; merged = p.merged })

-- numbers in range, and among the first `fresh` rectangles no pair that merges
pub record Scannable (kerf : ℕ) (rects : List Rect) (fresh : ℕ) : Type 0 where
  pub thin : kerf ≤ most_side
  pub small : All Small rects
  pub apart : first_pair kerf (take fresh rects) ≡ Defined.none

-- whether one of the rectangles merges with r
unfoldable pub touches : ℕ → Rect → List Rect → Bool
touches kerf r rects = any (λ q. is_some (merge_adjacent_rects kerf q r)) rects
