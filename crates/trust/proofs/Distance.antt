-- The test of kerf distance says what the geometry says.
use Prim.Native.Nat.{ℕ, ◌+◌}
use mathlib.Core.Logic.{◌⊎◌, inl, inr}
use mathlib.Core.Bool.{Bool, true, false, ◌||◌}
use lib.Dec.{T, leb, leb→le, le→leb}
use Rattle.model.specs.declared.Rect.{Rect}
use Rattle.trust.specs.PieceRules.{kerf_apart}
use Rattle.trust.specs.Sound.{Apart, above, beneath, left_of, right_of}
use Rattle.trust.proofs.Truth.{or_left, or_right}

or_split : (a b : Bool) → T (a || b) → T a ⊎ T b
or_split true b t = inl tt
or_split false b t = inr t

module _ (kerf : ℕ) (a b : Rect) where
  abbrev l : Bool
  l = leb (a.x + a.width + kerf) b.x

  abbrev r : Bool
  r = leb (b.x + b.width + kerf) a.x

  abbrev u : Bool
  u = leb (a.y + a.length + kerf) b.y

  abbrev d : Bool
  d = leb (b.y + b.length + kerf) a.y

  pub apart_passed : Apart kerf a b → T (kerf_apart kerf a b)
  unfolding kerf_apart
  apart_passed (left_of k) = or_left (l || r || u) d (or_left (l || r) u (or_left l r (le→leb _ _ k)))
  apart_passed (right_of k) = or_left (l || r || u) d (or_left (l || r) u (or_right l r (le→leb _ _ k)))
  apart_passed (above k) = or_left (l || r || u) d (or_right (l || r) u (le→leb _ _ k))
  apart_passed (beneath k) = or_right (l || r || u) d (le→leb _ _ k)

  -- the first of the four tests that is passed
  pub apart_of : T (kerf_apart kerf a b) → Apart kerf a b
  unfolding kerf_apart
  apart_of t = four (or_split (l || r || u) d t)
    where
      two : T l ⊎ T r → Apart kerf a b
      two (inl k) = left_of (leb→le _ _ k)
      two (inr k) = right_of (leb→le _ _ k)

      three : T (l || r) ⊎ T u → Apart kerf a b
      three (inl k) = two (or_split l r k)
      three (inr k) = above (leb→le _ _ k)

      four : T (l || r || u) ⊎ T d → Apart kerf a b
      four (inl k) = three (or_split (l || r) u k)
      four (inr k) = beneath (leb→le _ _ k)
