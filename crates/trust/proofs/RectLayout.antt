-- The invariant of a sheet's rectangles, pieces and waste together, and that a split and a merge keep it.
use Rattle.std.specs.Prelude.{if◌then◌else◌}
use Prim.Native.Nat.{ℕ, ◌+◌, ◌-◌, ◌≤◌, ◌<◌}
use native.Mathlib.Omega.{arith}
use mathlib.Core.Path.{◌≡◌}
use mathlib.Core.Bool.{Bool, true, false}
use mathlib.Core.List.{List, [], ◌∷◌, ◌++◌}
use lib.Dec.{T, ltb, ltb→lt}
use Rattle.model.specs.declared.Rect.{Rect}
use Rattle.model.specs.declared.Direction.{Direction}
use Rattle.model.specs.Types.{rect}
use Rattle.model.specs.Split.{bottom_remainder, right_remainder, split_free_rect}
use Rattle.trust.specs.Sound.{Apart, Layout, Positive, Within, above, beneath, left_of}
use Rattle.lists.specs.Elements.{Perm, All, Pairs}
use Rattle.lists.proofs.Perm.{all_map, all_append, all_perm, pairs_perm}
use Rattle.trust.proofs.Geometry.{apart_sym, within_trans, within_apart, Joins, joins_apart, joins_within, joins_positive}

pub layout_perm : {kerf : ℕ} {board : Rect} {xs ys : List Rect} → Perm xs ys → Layout kerf board xs → Layout kerf board ys
layout_perm p h =
    record {
      positive = all_perm Positive p h.positive;
      within = all_perm (Within _) p h.within;
      apart = pairs_perm (Apart _) (λ x y. apart_sym x y) p h.apart;
    }

-- ---- a merge

pub layout_merge : {kerf : ℕ} {board a b m : Rect} (rest : List Rect) → Joins kerf a b m → Layout kerf board (a ∷ b ∷ rest) → Layout kerf board (m ∷ rest)
layout_merge {kerf} {board} {a} {b} {m} rest j h =
    record {
      positive = (joins_positive j h.positive.0, h.positive.1.1);
      within = (joins_within board j h.within.0 h.within.1.0, h.within.1.1);
      apart = (go rest h.positive.1.1 h.apart.0.1 h.apart.1.0, h.apart.1.1);
    }
  where
    go : (qs : List Rect) → All Positive qs → All (Apart kerf a) qs → All (Apart kerf b) qs → All (Apart kerf m) qs
    go [] s k l = tt
    go (q ∷ qs) s k l = (apart_sym q m (joins_apart q s.0 j (apart_sym a q k.0) (apart_sym b q l.0)), go qs s.1 k.1 l.1)

-- ---- a rectangle replaced by what lies in it, a kerf apart

pub layout_replace : {kerf : ℕ} {board f : Rect} (new rest : List Rect) → Layout kerf f new → Layout kerf board (f ∷ rest) → Layout kerf board (new ++ rest)
layout_replace {kerf} {board} {f} new rest n h =
    record {
      positive = all_append Positive new rest n.positive h.positive.1;
      within = all_append (Within board) new rest (all_map (Within f) (Within board) (λ q k. within_trans h.within.0 k) new n.within) h.within.1;
      apart = go new n.within n.apart;
    }
  where
    against : (n : Rect) → Within f n → (qs : List Rect) → All (Apart kerf f) qs → All (Apart kerf n) qs
    against n k = all_map (Apart kerf f) (Apart kerf n) (λ q e. apart_sym q n (within_apart q k (apart_sym f q e)))

    go : (ns : List Rect) → All (Within f) ns → Pairs (Apart kerf) ns → Pairs (Apart kerf) (ns ++ rest)
    go [] k l = h.apart.1
    go (n ∷ ns) k l = (all_append (Apart kerf n) ns rest l.0 (against n k.0 rest h.apart.0), go ns k.1 l.1)

-- ---- a split

-- the piece lies at the corner of the free rectangle
pub record Corner (f p : Rect) : Type 0 where
  pub x : p.x ≡ f.x
  pub y : p.y ≡ f.y
  pub width : p.width ≤ f.width
  pub length : p.length ≤ f.length

-- a remainder: of positive sides, in the free rectangle, a kerf apart from the piece
pub record Remainder (kerf : ℕ) (f p r : Rect) : Type 0 where
  pub positive : Positive r
  pub within : Within f r
  pub apart : Apart kerf p r

module _ (kerf : ℕ) (f p : Rect) (c : Corner f p) (s : Positive p) where
  corner_within : Within f p
  corner_within = record { left = omega arith; top = omega arith; right = omega arith; bottom = omega arith }

  bottom_remainder_lem : (w : ℕ) → 0 < w → w ≤ f.width → kerf < f.length - p.length
      → Remainder kerf f p (rect f.x (f.y + p.length + kerf) w (f.length - p.length - kerf))
  bottom_remainder_lem w a b h =
      record {
        positive = record { wide = a; long = omega arith };
        within = record { left = omega arith; top = omega arith; right = omega arith; bottom = omega arith };
        apart = above (omega arith);
      }

  right_remainder_lem : (l : ℕ) → 0 < l → l ≤ f.length → kerf < f.width - p.width
      → Remainder kerf f p (rect (f.x + p.width + kerf) f.y (f.width - p.width - kerf) l)
  right_remainder_lem l a b h =
      record {
        positive = record { wide = omega arith; long = a };
        within = record { left = omega arith; top = omega arith; right = omega arith; bottom = omega arith };
        apart = left_of (omega arith);
      }

  two_remainders : (b₁ b₂ : Bool) (b r : Rect) → (T b₁ → Remainder kerf f p b) → (T b₂ → Remainder kerf f p r) → Apart kerf b r
      → Layout kerf f (p ∷ (if b₁ then b ∷ [] else []) ++ (if b₂ then r ∷ [] else []))
  two_remainders true true b r g h a =
      let m = g tt in
      let n = h tt in
      record {
        positive = (s, (m.positive, (n.positive, tt)));
        within = (corner_within, (m.within, (n.within, tt)));
        apart = ((m.apart, (n.apart, tt)), ((a, tt), (tt, tt)));
      }
  two_remainders true false b r g h a =
      let m = g tt in
      record { positive = (s, (m.positive, tt)); within = (corner_within, (m.within, tt)); apart = ((m.apart, tt), (tt, tt)) }
  two_remainders false true b r g h a =
      let n = h tt in
      record { positive = (s, (n.positive, tt)); within = (corner_within, (n.within, tt)); apart = ((n.apart, tt), (tt, tt)) }
  two_remainders false false b r g h a = record { positive = (s, tt); within = (corner_within, tt); apart = (tt, tt) }

  -- the piece and what the split pushes
  pub split_layout : (d : Direction) → Layout kerf f (p ∷ split_free_rect d kerf f p)
  unfolding split_free_rect bottom_remainder right_remainder
  split_layout Direction.Horizontal =
      two_remainders (ltb kerf (f.length - p.length)) (ltb kerf (f.width - p.width)) _ _
      (λ t. bottom_remainder_lem f.width (omega arith) (omega arith) (ltb→lt _ _ t))
      (λ t. right_remainder_lem p.length (omega arith) (omega arith) (ltb→lt _ _ t))
      (beneath (omega arith))
  split_layout Direction.Vertical =
      two_remainders (ltb kerf (f.length - p.length)) (ltb kerf (f.width - p.width)) _ _
      (λ t. bottom_remainder_lem p.width (omega arith) (omega arith) (ltb→lt _ _ t))
      (λ t. right_remainder_lem f.length (omega arith) (omega arith) (ltb→lt _ _ t))
      (left_of (omega arith))
