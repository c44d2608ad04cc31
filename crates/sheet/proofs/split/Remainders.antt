-- What a split leaves: at most one rectangle each way, on what is left of a side, and in range.
use Rattle.std.specs.Prelude.{if◌then◌else◌, Option, Some, None, option_to_list}
use Prim.Native.Nat.{ℕ, ◌+◌, ◌-◌, ◌≤◌, ◌<◌}
use native.Mathlib.Omega.{arith}
use mathlib.Core.Path.{◌≡◌, refl, ap, ◌∙◌}
use mathlib.Core.Bool.{Bool, true, false}
use mathlib.Core.List.{List, [], ◌∷◌, map}
use lib.Dec.{ltb}
use lib.ListN.{length}
use borrow.Author.Tests.{ltb-true}
use Rattle.lists.specs.Base.{swap_remove}
use Rattle.lists.specs.Elements.{All}
use Rattle.lists.proofs.Perm.{all_append, all_perm, swap_remove_out}
use Rattle.model.specs.declared.Rect.{Rect}
use Rattle.model.specs.declared.Direction.{Direction}
use Rattle.model.specs.Types.{no_rect, rect}
use Rattle.model.specs.Split.{bottom_remainder, right_remainder, bottom_width, right_length, split_free_rect}
use Rattle.sheet.specs.Bounds.{Small, Inside}
use Rattle.sheet.specs.Remainders.{rest_behind}

pub remainder_one : (r : Option Rect) → length (option_to_list r) ≤ 1
remainder_one None = omega arith
remainder_one (Some r) = omega arith

-- ---- a remainder is a rectangle on what is left of a side: it is there exactly if the rest is

map_if : (f : ℕ × ℕ → Rect) (b : Bool) (e : ℕ × ℕ) → map f (if b then e ∷ [] else []) ≡ (if b then f e ∷ [] else [])
map_if f true e = refl
map_if f false e = refl

module _ (kerf : ℕ) (free placed : Rect) (other : ℕ) (l : List (ℕ × ℕ)) where
  pub bottom_on : l ≡ rest_behind kerf free.y free.length placed.length → map (λ (e : ℕ × ℕ). rect free.x e.0 other e.1) l ≡ bottom_remainder kerf free placed other
  unfolding bottom_remainder
  bottom_on h =
      let f : ℕ × ℕ → Rect = λ e. rect free.x e.0 other e.1 in
      ap (map f) h ∙ map_if f (ltb kerf (free.length - placed.length)) (free.y + placed.length + kerf, free.length - placed.length - kerf)

  pub right_on : l ≡ rest_behind kerf free.x free.width placed.width → map (λ (e : ℕ × ℕ). rect e.0 free.y e.1 other) l ≡ right_remainder kerf free placed other
  unfolding right_remainder
  right_on h =
      let f : ℕ × ℕ → Rect = λ e. rect e.0 free.y e.1 other in
      ap (map f) h ∙ map_if f (ltb kerf (free.width - placed.width)) (free.x + placed.width + kerf, free.width - placed.width - kerf)

-- ---- in range

one_small : (b : Bool) (r : Rect) → (b ≡ true → Small r) → All Small (if b then r ∷ [] else [])
one_small true r p = (p refl, tt)
one_small false r p = tt

module _ (kerf : ℕ) (free placed : Rect) (s : Small free) (w : Inside placed free) where
  bottom_small : (width : ℕ) → width ≤ free.width → All Small (bottom_remainder kerf free placed width)
  unfolding bottom_remainder
  bottom_small width h =
      one_small (ltb kerf (free.length - placed.length)) _
      (λ t. let k : kerf < free.length - placed.length = ltb-true _ _ t in record { across = omega arith; along = omega arith })

  right_small : (long : ℕ) → long ≤ free.length → All Small (right_remainder kerf free placed long)
  unfolding right_remainder
  right_small long h =
      one_small (ltb kerf (free.width - placed.width)) _
      (λ t. let k : kerf < free.width - placed.width = ltb-true _ _ t in record { across = omega arith; along = omega arith })

  width_within : (d : Direction) → bottom_width d free placed ≤ free.width
  width_within Direction.Horizontal = omega arith
  width_within Direction.Vertical = w.across

  length_within : (d : Direction) → right_length d free placed ≤ free.length
  length_within Direction.Horizontal = w.along
  length_within Direction.Vertical = omega arith

  pub split_small : (d : Direction) → All Small (split_free_rect d kerf free placed)
  unfolding split_free_rect
  split_small d =
      all_append Small (bottom_remainder kerf free placed (bottom_width d free placed)) (right_remainder kerf free placed (right_length d free placed))
      (bottom_small (bottom_width d free placed) (width_within d)) (right_small (right_length d free placed) (length_within d))

-- what is left once one of them is taken out
pub swap_small : (l : List Rect) (i : ℕ) → i < length l → All Small l → All Small (swap_remove no_rect i l)
swap_small l i h a = (all_perm Small (swap_remove_out no_rect l i h) a).1
