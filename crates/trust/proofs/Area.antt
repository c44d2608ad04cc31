-- The area of a sheet's rectangles: an insertion takes the loss of its split and gives back what its merges do.
use Rattle.std.specs.Prelude.{if◌then◌else◌}
use Prim.Native.Nat.{ℕ, zero, suc, ◌+◌, ◌-◌, ◌*◌, ◌≤◌, ◌<◌, min}
use native.Mathlib.Nat.{mul-add, add-mul, mul_comm, min-eq_left, min-eq_right, le_of_lt}
use native.Mathlib.Omega.{arith}
use mathlib.Core.Path.{◌≡◌, refl, sym, ap, ◌∙◌, subst}
use mathlib.Core.Bool.{Bool, true, false, not, ◌||◌}
use mathlib.Core.List.{List, [], ◌∷◌, ◌++◌, map}
use mathlib.Core.Option.{Option, none, some, some-injective, none-ne-some}
use lib.Dec.{T, ltb, ltb→lt, nltb→le}
use lib.ListN.{get_or}
use Rattle.lists.specs.Base.{sum}
use Rattle.model.specs.declared.Rect.{Rect}
use Rattle.model.specs.declared.Direction.{Direction}
use Rattle.model.specs.Types.{area, no_rect}
use Rattle.model.specs.Split.{bottom_remainder, right_remainder, split_free_rect, split_loss}
use Rattle.model.specs.Merge.{Pair, below, beside, stacked, joined, merge_adjacent_rects, first_pair, apply_merge, merge_rounds}
use Rattle.model.specs.Account.{shared_side, rounds_gain}
use Rattle.lists.proofs.Perm.{sum_perm}
use Rattle.trust.proofs.Geometry.{below_facts, beside_facts}
use Rattle.trust.proofs.RectLayout.{Corner}
use Rattle.trust.proofs.Merging.{Mergeable, first_pair_mergeable, round}

abbrev pub areas : List Rect → ℕ
areas rs = sum (map area rs)

-- ---- a merge

stacked_area : (kerf : ℕ) (a b : Rect) → a.width ≡ b.width → area (stacked kerf a b) ≡ area a + area b + kerf * a.width
stacked_area kerf a b e =
    omega (arith, mul-add a.width (a.length + kerf) b.length, mul-add a.width a.length kerf, mul_comm kerf a.width, ap (λ (w : ℕ). w * b.length) e)

joined_area : (kerf : ℕ) (a b : Rect) → a.length ≡ b.length → area (joined kerf a b) ≡ area a + area b + kerf * a.length
joined_area kerf a b e =
    omega (arith, add-mul (a.width + kerf) b.width a.length, add-mul a.width kerf a.length, ap (λ (l : ℕ). b.width * l) e)

area_chain : (t w l : ℕ) (b₁ b₂ b₃ b₄ : Bool) (m₁ m₂ m₃ m₄ m : Rect)
    → (T b₁ → area m₁ ≡ t + w) → (T b₂ → area m₂ ≡ t + w) → (T b₃ → area m₃ ≡ t + l) → (T b₄ → area m₄ ≡ t + l)
    → (if b₁ then some m₁ else if b₂ then some m₂ else if b₃ then some m₃ else if b₄ then some m₄ else none) ≡ some m
    → area m ≡ t + (if b₁ || b₂ then w else l)
area_chain t w l true b₂ b₃ b₄ m₁ m₂ m₃ m₄ m f₁ f₂ f₃ f₄ e = sym (ap area (some-injective m₁ m e)) ∙ f₁ tt
area_chain t w l false true b₃ b₄ m₁ m₂ m₃ m₄ m f₁ f₂ f₃ f₄ e = sym (ap area (some-injective m₂ m e)) ∙ f₂ tt
area_chain t w l false false true b₄ m₁ m₂ m₃ m₄ m f₁ f₂ f₃ f₄ e = sym (ap area (some-injective m₃ m e)) ∙ f₃ tt
area_chain t w l false false false true m₁ m₂ m₃ m₄ m f₁ f₂ f₃ f₄ e = sym (ap area (some-injective m₄ m e)) ∙ f₄ tt
area_chain t w l false false false false m₁ m₂ m₃ m₄ m f₁ f₂ f₃ f₄ e = absurd (none-ne-some m e)

times_if : (k w l : ℕ) (b : Bool) → (if b then k * w else k * l) ≡ k * (if b then w else l)
times_if k w l true = refl
times_if k w l false = refl

pub merge_area : (kerf : ℕ) (l r m : Rect) → merge_adjacent_rects kerf l r ≡ some m → area m ≡ area l + area r + kerf * shared_side kerf l r
unfolding merge_adjacent_rects shared_side
merge_area kerf l r m e =
    area_chain (area l + area r) (kerf * l.width) (kerf * l.length) (below kerf l r) (below kerf r l) (beside kerf l r) (beside kerf r l)
    (stacked kerf l r) (stacked kerf r l) (joined kerf l r) (joined kerf r l) m
    (λ h. let t = below_facts kerf l r h in stacked_area kerf l r t.1)
    (λ h. let t = below_facts kerf r l h in omega (arith, stacked_area kerf r l t.1, ap (λ (w : ℕ). kerf * w) t.1))
    (λ h. let t = beside_facts kerf l r h in joined_area kerf l r t.1)
    (λ h. let t = beside_facts kerf r l h in omega (arith, joined_area kerf r l t.1, ap (λ (w : ℕ). kerf * w) t.1))
    e
    ∙ ap (λ (g : ℕ). area l + area r + g) (times_if kerf l.width l.length (below kerf l r || below kerf r l))

pub merge_rounds_area : (kerf n : ℕ) (free : List Rect) → areas (merge_rounds n kerf free) ≡ areas free + rounds_gain n kerf free
unfolding merge_rounds rounds_gain sum
merge_rounds_area kerf zero free = omega arith
merge_rounds_area kerf (suc n) free = go (first_pair kerf free) refl (merge_rounds_area kerf n)
  where
    gain : Pair → ℕ
    gain p = kerf * shared_side kerf (get_or free p.left no_rect) (get_or free p.right no_rect)

    step : (p : Pair) → Mergeable kerf free p → areas (apply_merge free p) ≡ areas free + gain p
    step p m =
        let r = round free p m in
        omega (arith, sum_perm area r.before, sum_perm area r.after, merge_area kerf _ _ p.merged m.merges)

    go : (o : Option Pair) → first_pair kerf free ≡ o → ((xs : List Rect) → areas (merge_rounds n kerf xs) ≡ areas xs + rounds_gain n kerf xs)
        → areas (elim o [ none ↦ free | some p ↦ merge_rounds n kerf (apply_merge free p) ])
        ≡ areas free + (elim o [ none ↦ 0 | some p ↦ gain p + rounds_gain n kerf (apply_merge free p) ])
    go none e later = omega arith
    go (some p) e later = omega (arith, later (apply_merge free p), step p (first_pair_mergeable kerf free p e))

-- ---- a split

-- a remainder and its loss are what was left along that side
side_area : (kerf r w : ℕ) (b : Bool) → b ≡ ltb kerf r → (if b then w * (r - kerf) else 0) + min r kerf * w ≡ r * w
side_area kerf r w true e =
    let h : kerf < r = ltb→lt kerf r (subst T e tt) in
    rw (min-eq_right (le_of_lt h)) (omega (arith, ap (λ (n : ℕ). n * w) (less h), add-mul (r - kerf) kerf w, mul_comm w (r - kerf)))
  where
    less : kerf < r → r ≡ r - kerf + kerf
    less h = omega arith
side_area kerf r w false e =
    let h : r ≤ kerf = nltb→le kerf r (subst (λ (b : Bool). T (not b)) e tt) in
    rw (min-eq_left h) (omega arith)

areas_if : (b : Bool) (x : Rect) → areas (if b then x ∷ [] else []) ≡ (if b then area x else 0)
unfolding sum
areas_if true x = omega arith
areas_if false x = refl

pub areas_append : (xs ys : List Rect) → areas (xs ++ ys) ≡ areas xs + areas ys
unfolding sum
areas_append [] ys = omega arith
areas_append (x ∷ xs) ys = omega (arith, areas_append xs ys)

module _ (kerf : ℕ) (f p : Rect) where
  abbrev rest_length : ℕ
  rest_length = f.length - p.length

  abbrev rest_width : ℕ
  rest_width = f.width - p.width

  bottom_area : (w : ℕ) → areas (bottom_remainder kerf f p w) + min rest_length kerf * w ≡ rest_length * w
  unfolding bottom_remainder
  bottom_area w =
      ap (λ (n : ℕ). n + min rest_length kerf * w) (areas_if (ltb kerf rest_length) _) ∙ side_area kerf rest_length w (ltb kerf rest_length) refl

  right_area : (l : ℕ) → areas (right_remainder kerf f p l) + min rest_width kerf * l ≡ rest_width * l
  unfolding right_remainder
  right_area l =
      ap (λ (n : ℕ). n + min rest_width kerf * l) (areas_if (ltb kerf rest_width) _)
      ∙ ap (λ (n : ℕ). (if ltb kerf rest_width then n else 0) + min rest_width kerf * l) (mul_comm (rest_width - kerf) l)
      ∙ side_area kerf rest_width l (ltb kerf rest_width) refl

  -- the free rectangle is the piece, the remainders and the loss
  pub split_area : (d : Direction) → Corner f p → area f ≡ area p + areas (split_free_rect d kerf f p) + split_loss d kerf f p
  unfolding split_free_rect split_loss
  split_area Direction.Horizontal c =
      let long : f.length ≡ p.length + rest_length = omega arith in
      let wide : f.width ≡ p.width + rest_width = omega arith in
      omega (
        arith,
        areas_append (bottom_remainder kerf f p f.width) (right_remainder kerf f p p.length),
        bottom_area f.width,
        right_area p.length,
        ap (λ (n : ℕ). f.width * n) long,
        mul-add f.width p.length rest_length,
        mul_comm f.width rest_length,
        ap (λ (n : ℕ). n * p.length) wide,
        add-mul p.width rest_width p.length,
      )
  split_area Direction.Vertical c =
      let long : f.length ≡ p.length + rest_length = omega arith in
      let wide : f.width ≡ p.width + rest_width = omega arith in
      omega (
        arith,
        areas_append (bottom_remainder kerf f p p.width) (right_remainder kerf f p f.length),
        bottom_area p.width,
        right_area f.length,
        ap (λ (n : ℕ). n * f.length) wide,
        add-mul p.width rest_width f.length,
        ap (λ (n : ℕ). p.width * n) long,
        mul-add p.width p.length rest_length,
        mul_comm p.width rest_length,
      )
