-- Two free rectangles a kerf apart with a whole side in common become one: `merge_adjacent_rects`, `merge_free_rects`.
use Rattle.std.specs.Prelude.{ℕ, zero, suc, ◌+◌, Bool, ◌&&◌, List, [], ◌∷◌, eqb, length, set, if◌then◌else◌}
use Rattle.std.proofs.Math.Option.{Option, none, some}
use Rattle.lists.specs.Base.{◌<|>◌, ◌>>=◌, is_some, swap_remove}
use Rattle.model.specs.Types.{Rect, rect, no_rect}

-- the second rectangle lies right below the first, or right beside it on the right, a kerf away
abbrev pub below : ℕ → Rect → Rect → Bool
below kerf a b = eqb a.x b.x && eqb a.width b.width && eqb (a.y + a.length + kerf) b.y

abbrev pub beside : ℕ → Rect → Rect → Bool
beside kerf a b = eqb a.y b.y && eqb a.length b.length && eqb (a.x + a.width + kerf) b.x

-- the two as one, the kerf between them included
abbrev pub stacked : ℕ → Rect → Rect → Rect
stacked kerf a b = rect a.x a.y a.width (a.length + kerf + b.length)

abbrev pub joined : ℕ → Rect → Rect → Rect
joined kerf a b = rect a.x a.y (a.width + kerf + b.width) a.length

-- merge_adjacent_rects: the two in either order (Sentences.merge_either, a row of Plans)
unfoldable pub merge_adjacent_rects : ℕ → Rect → Rect → Option Rect
merge_adjacent_rects kerf left right =
    if below kerf left right then some (stacked kerf left right)
    else if below kerf right left then some (stacked kerf right left)
    else if beside kerf left right then some (joined kerf left right)
    else if beside kerf right left then some (joined kerf right left)
    else none

-- the two nested loops of merge_free_rects: the first pair that merges, by its places, with the merged rectangle
pub record Pair : Type 0 where
  pub left : ℕ
  pub right : ℕ
  pub merged : Rect

unfoldable pub find_right : ℕ → ℕ → Rect → ℕ → List Rect → Option Pair
find_right kerf i left j [] = none
find_right kerf i left j (right ∷ rest) =
    (merge_adjacent_rects kerf left right >>= λ m. some (record { left = i; right = j; merged = m })) <|> find_right kerf i left (suc j) rest

unfoldable pub find_pair : ℕ → ℕ → List Rect → Option Pair
find_pair kerf i [] = none
find_pair kerf i (left ∷ rest) = find_right kerf i left (suc i) rest <|> find_pair kerf (suc i) rest

abbrev pub first_pair : ℕ → List Rect → Option Pair
first_pair kerf free = find_pair kerf 0 free

-- what is done with that pair: the left one becomes the merged one, the right one is swap-removed
unfoldable pub apply_merge : List Rect → Pair → List Rect
apply_merge free p = swap_remove no_rect p.right (set free p.left p.merged)

-- merge_free_rects: after each merge the scan starts again. A merge takes one rectangle away, so as many rounds as rectangles are enough
unfoldable pub merge_rounds : ℕ → ℕ → List Rect → List Rect
merge_rounds zero kerf free = free
merge_rounds (suc n) kerf free = elim (first_pair kerf free) [ none ↦ free | some p ↦ merge_rounds n kerf (apply_merge free p) ]

unfoldable pub merge_free_rects : ℕ → List Rect → List Rect
merge_free_rects kerf free = merge_rounds (length free) kerf free

-- what merge_free_rects returns: whether it merged at least once
unfoldable pub merges_any : ℕ → List Rect → Bool
merges_any kerf free = is_some (first_pair kerf free)
