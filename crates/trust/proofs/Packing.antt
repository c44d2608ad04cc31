-- Rectangles that lie in a board and are apart have no more area than the board: cells are counted, and each is covered at most once.
use Rattle.std.specs.Prelude.{if◌then◌else◌}
use Prim.Native.Nat.{ℕ, zero, suc, ◌+◌, ◌-◌, ◌*◌, ◌≤◌, ◌<◌, min}
use native.Mathlib.Nat.{le_refl, le_trans, add-le-add, mul-add, mul-zero, one-mul, zero-mul, mul_comm, suc-mul}
use native.Mathlib.Omega.{arith}
use mathlib.Core.Path.{◌≡◌, refl, sym, ap, ◌∙◌}
use mathlib.Core.Logic.{◌⊎◌, inl, inr}
use mathlib.Core.Bool.{Bool, true, false, ◌&&◌}
use mathlib.Core.List.{List, [], ◌∷◌, map}
use lib.Dec.{leb, ltb}
use borrow.Author.Tests.{leb-true, leb-false, ltb-true, ltb-false}
use Rattle.lists.specs.Base.{sum}
use Rattle.lists.specs.Elements.{All, Pairs}
use Rattle.model.specs.declared.Rect.{Rect}
use Rattle.model.specs.Types.{area}
use Rattle.trust.specs.Sound.{Apart, Within, above, beneath, left_of, right_of}

-- ---- sums over the numbers below n

sum_to : ℕ → (ℕ → ℕ) → ℕ
sum_to zero f = 0
sum_to (suc n) f = sum_to n f + f n

sum_le : (n : ℕ) (f g : ℕ → ℕ) → ((x : ℕ) → f x ≤ g x) → sum_to n f ≤ sum_to n g
unfolding sum_to
sum_le zero f g h = le_refl 0
sum_le (suc n) f g h = add-le-add (sum_le n f g h) (h n)

sum_ext : (n : ℕ) (f g : ℕ → ℕ) → ((x : ℕ) → f x ≡ g x) → sum_to n f ≡ sum_to n g
unfolding sum_to
sum_ext zero f g h = refl
sum_ext (suc n) f g h = omega (arith, sum_ext n f g h, h n)

sum_const : (n c : ℕ) → sum_to n (λ x. c) ≡ n * c
unfolding sum_to
sum_const zero c = sym (zero-mul c)
sum_const (suc n) c = omega (arith, sum_const n c, suc-mul n c)

sum_add : (n : ℕ) (f g : ℕ → ℕ) → sum_to n (λ x. f x + g x) ≡ sum_to n f + sum_to n g
unfolding sum_to
sum_add zero f g = refl
sum_add (suc n) f g = omega (arith, sum_add n f g)

sum_scale : (n c : ℕ) (f : ℕ → ℕ) → sum_to n (λ x. c * f x) ≡ c * sum_to n f
unfolding sum_to
sum_scale zero c f = sym (mul-zero c)
sum_scale (suc n) c f = omega (arith, sum_scale n c f, mul-add c (sum_to n f) (f n))

-- ---- one side

-- 1 from a up to a + w, else 0
inside : ℕ → ℕ → ℕ → ℕ
inside a w x = if leb a x && ltb x (a + w) then 1 else 0

-- where x lies, and what v, the value there, is
data Side (a w x v : ℕ) : Type 0 where
  early : v ≡ 0 → x < a → Side a w x v
  amid : v ≡ 1 → a ≤ x → x < a + w → Side a w x v
  late : v ≡ 0 → a + w ≤ x → Side a w x v

side : (a w x : ℕ) → Side a w x (inside a w x)
unfolding inside
side a w x = go (leb a x) refl (ltb x (a + w)) refl
  where
    go : (b : Bool) → leb a x ≡ b → (c : Bool) → ltb x (a + w) ≡ c → Side a w x (if b && c then 1 else 0)
    go false e c f = early refl (leb-false a x e)
    go true e true f = amid refl (leb-true a x e) (ltb-true x (a + w) f)
    go true e false f = late refl (ltb-false x (a + w) f)

inside_sum : (a w n : ℕ) → sum_to n (inside a w) ≡ min w (n - a)
unfolding sum_to
inside_sum a w zero = omega arith
inside_sum a w (suc n) = go (inside a w n) (side a w n) (inside_sum a w n)
  where
    go : (v : ℕ) → Side a w n v → sum_to n (inside a w) ≡ min w (n - a) → sum_to n (inside a w) + v ≡ min w (suc n - a)
    go v (early e h) k = omega arith
    go v (amid e h l) k = omega arith
    go v (late e h) k = omega arith

-- ---- cells

cover : Rect → ℕ → ℕ → ℕ
cover r x y = inside r.x r.width x * inside r.y r.length y

cells : ℕ → ℕ → (ℕ → ℕ → ℕ) → ℕ
cells w l f = sum_to w (λ x. sum_to l (f x))

-- a rectangle in the board covers as many cells as its area says
cover_area : (board r : Rect) → board.x ≡ 0 → board.y ≡ 0 → Within board r → cells board.width board.length (cover r) ≡ area r
unfolding cells cover
cover_area board r bx by h =
    sum_ext board.width _ (λ x. r.length * inside r.x r.width x)
    (λ x. sum_scale board.length (inside r.x r.width x) (inside r.y r.length)
    ∙ ap (λ (n : ℕ). inside r.x r.width x * n) (inside_sum r.y r.length board.length ∙ omega arith)
    ∙ mul_comm (inside r.x r.width x) r.length)
    ∙ sum_scale board.width r.length (inside r.x r.width)
    ∙ ap (λ (n : ℕ). r.length * n) (inside_sum r.x r.width board.width ∙ omega arith)
    ∙ mul_comm r.length r.width

-- a cell of a rectangle
record Cell (r : Rect) (x y : ℕ) : Type 0 where
  left : r.x ≤ x
  right : x < r.x + r.width
  top : r.y ≤ y
  bottom : y < r.y + r.length

cover_cases : (r : Rect) (x y : ℕ) → (cover r x y ≡ 0) ⊎ ((cover r x y ≡ 1) × Cell r x y)
unfolding cover
cover_cases r x y = go (inside r.x r.width x) (side r.x r.width x) (inside r.y r.length y) (side r.y r.length y)
  where
    go : (u : ℕ) → Side r.x r.width x u → (v : ℕ) → Side r.y r.length y v → (u * v ≡ 0) ⊎ ((u * v ≡ 1) × Cell r x y)
    go u (early e h) v t = inl (ap (λ (n : ℕ). n * v) e ∙ zero-mul v)
    go u (late e h) v t = inl (ap (λ (n : ℕ). n * v) e ∙ zero-mul v)
    go u (amid e h k) v (early f l) = inl (ap (λ (n : ℕ). u * n) f ∙ mul-zero u)
    go u (amid e h k) v (late f l) = inl (ap (λ (n : ℕ). u * n) f ∙ mul-zero u)
    go u (amid e h k) v (amid f l m) = inr (ap (λ (n : ℕ). n * v) e ∙ one-mul v ∙ f, record { left = h; right = k; top = l; bottom = m })

apart_cell : {kerf : ℕ} (r q : Rect) (x y : ℕ) → Apart kerf r q → Cell r x y → Cell q x y → ⊥
apart_cell r q x y (left_of h) c d = omega arith
apart_cell r q x y (right_of h) c d = omega arith
apart_cell r q x y (above h) c d = omega arith
apart_cell r q x y (beneath h) c d = omega arith

-- no cell is covered twice
covered : List Rect → ℕ → ℕ → ℕ
covered rs x y = sum (map (λ r. cover r x y) rs)

covered_none : (kerf : ℕ) (r : Rect) (rs : List Rect) (x y : ℕ) → Cell r x y → All (Apart kerf r) rs → covered rs x y ≡ 0
unfolding covered sum
covered_none kerf r [] x y c h = refl
covered_none kerf r (q ∷ rs) x y c h = omega (arith, go (cover_cases q x y), covered_none kerf r rs x y c h.1)
  where
    go : (cover q x y ≡ 0) ⊎ ((cover q x y ≡ 1) × Cell q x y) → cover q x y ≡ 0
    go (inl e) = e
    go (inr d) = absurd (apart_cell r q x y h.0 c d.1)

covered_once : (kerf : ℕ) (rs : List Rect) (x y : ℕ) → Pairs (Apart kerf) rs → covered rs x y ≤ 1
unfolding covered sum
covered_once kerf [] x y h = omega arith
covered_once kerf (r ∷ rs) x y h = go (cover_cases r x y) (covered_once kerf rs x y h.1)
  where
    go : (cover r x y ≡ 0) ⊎ ((cover r x y ≡ 1) × Cell r x y) → covered rs x y ≤ 1 → cover r x y + covered rs x y ≤ 1
    go (inl e) k = omega arith
    go (inr d) k = omega (arith, covered_none kerf r rs x y d.1 h.0, d.0)

-- the cells of all of them
cells_add : (w l : ℕ) (f g : ℕ → ℕ → ℕ) → cells w l (λ x y. f x y + g x y) ≡ cells w l f + cells w l g
unfolding cells
cells_add w l f g = sum_ext w _ (λ x. sum_to l (f x) + sum_to l (g x)) (λ x. sum_add l (f x) (g x)) ∙ sum_add w (λ x. sum_to l (f x)) (λ x. sum_to l (g x))

cells_zero : (w l : ℕ) → cells w l (λ x y. 0) ≡ 0
unfolding cells
cells_zero w l = sum_ext w _ (λ x. 0) (λ x. sum_const l 0 ∙ mul-zero l) ∙ sum_const w 0 ∙ mul-zero w

covered_areas : (board : Rect) (rs : List Rect) → board.x ≡ 0 → board.y ≡ 0 → All (Within board) rs → cells board.width board.length (covered rs) ≡ sum (map area rs)
unfolding covered sum
covered_areas board [] bx by h = cells_zero board.width board.length
covered_areas board (r ∷ rs) bx by h =
    cells_add board.width board.length (cover r) (covered rs)
    ∙ ap (λ (n : ℕ). n + cells board.width board.length (covered rs)) (cover_area board r bx by h.0)
    ∙ ap (λ (n : ℕ). area r + n) (covered_areas board rs bx by h.1)

pub packed_area : (kerf : ℕ) (board : Rect) (rs : List Rect) → board.x ≡ 0 → board.y ≡ 0 → All (Within board) rs → Pairs (Apart kerf) rs → sum (map area rs) ≤ area board
unfolding cells
packed_area kerf board rs bx by h p =
    let most : cells board.width board.length (covered rs) ≤ sum_to board.width (λ x. board.length) =
    sum_le board.width _ _ (λ x. le_trans (sum_le board.length _ (λ y. 1) (λ y. covered_once kerf rs x y p)) (le_one board.length))
    in
    omega (arith, covered_areas board rs bx by h, sum_const board.width board.length)
  where
    le_one : (n : ℕ) → sum_to n (λ y. 1) ≤ n
    le_one n = omega (arith, sum_const n 1)
