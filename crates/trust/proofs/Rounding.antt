-- Float operations on values that are not negative, by fractions that the operands equal: each is one `round` of the exact result.
-- `HasValue x false a c` says that x is finite, not negative and a / c in size.
use mathlib.Core.Path.{◌≡◌, sym, ap, ◌∙◌, subst}
use Prim.Native.Nat.{ℕ, zero, suc, ◌+◌, ◌*◌, ◌^◌, ◌≤◌, ◌<◌}
use native.Mathlib.Nat.{le_trans, le_of_eq, lt_of_not-le, not-le_of_lt, mul_assoc, mul_comm, mul_left_comm, mul-one, mul-pos, add-mul, zero-mul, zero-lt-suc}
use native.Mathlib.Omega.{arith}
use mathlib.Core.Bool.{Bool, true, false, not, ◌&&◌, ◌||◌, cond, true≢false}
use lib.IntN.{ℤ}
use lib.Dec.{T, ltb, eqb, ltb→lt, lt→ltb, eqb→eq, eqb-suc-zero}
use lib.Ieee.{Float, nan, inf, fin, Format, prec, emax, low, up, down, odd, units, round, add, mul, div, lt, le, is_nan}
use lib.Ieee.Back.{round_whole}
use lib.Ieee.Exact.{HasValue, odd_sign}
use lib.Ieee.Fits.{up_pos, down_pos, round_is}
use lib.Ieee.Order.{kept, drop, round_mono, transfer}
use lib.Ieee.Scale.{grid, finite, round_same, round_val, round_under}

-- what has such a value is m * 2 ^ e
one_value : (X : Float → Type 0) (a c : ℕ) → ((m : ℕ) (e : ℤ) → m * up e * c ≡ a * down e → X (fin false m e)) → (x : Float) → HasValue x false a c → X x
one_value X a c f nan p = absurd p
one_value X a c f (inf s) p = absurd p
one_value X a c f (fin true m e) p = absurd (true≢false p.0)
one_value X a c f (fin false m e) p = f m e p.1

two_values : (X : Float → Float → Type 0) (a c b d : ℕ)
    → ((m : ℕ) (e : ℤ) (n : ℕ) (k : ℤ) → m * up e * c ≡ a * down e → n * up k * d ≡ b * down k → X (fin false m e) (fin false n k))
    → (x y : Float) → HasValue x false a c → HasValue y false b d → X x y
two_values X a c b d f x y p q = one_value (λ z. X z y) a c (λ m e h. one_value (X (fin false m e)) b d (λ n k l. f m e n k h l) y q) x p

-- ---- the operations

module _ (f : Format) (a c b d : ℕ) (C : 0 < c) (D : 0 < d) where
  pub add_at : (x y : Float) → HasValue x false a c → HasValue y false b d → add f x y ≡ round f false (a * d + b * c) (c * d)
  unfolding add
  add_at =
      two_values (λ x y. add f x y ≡ round f false (a * d + b * c) (c * d)) a c b d
      (λ m e n k h l. round_same f false (m * up e * down k + n * up k * down e) (down e * down k) (a * d + b * c) (c * d) (mul-pos (down_pos e) (down_pos k)) (mul-pos C D)
      (cross (m * up e) (down e) (n * up k) (down k) h l))
    where
      cross : (X u Y v : ℕ) → X * c ≡ a * u → Y * d ≡ b * v → (X * v + Y * u) * (c * d) ≡ (a * d + b * c) * (u * v)
      cross X u Y v h k =
          let l : X * v * (c * d) ≡ a * d * (u * v) = simp (mul_assoc, mul_comm, mul_left_comm) (simp (mul_assoc, mul_comm, mul_left_comm) at (ap (λ (z : ℕ). z * (v * d)) h)) in
          let r : Y * u * (c * d) ≡ b * c * (u * v) = simp (mul_assoc, mul_comm, mul_left_comm) (simp (mul_assoc, mul_comm, mul_left_comm) at (ap (λ (z : ℕ). z * (u * c)) k)) in
          add-mul (X * v) (Y * u) (c * d) ∙ ap (λ (z : ℕ). z + Y * u * (c * d)) l ∙ ap (λ (z : ℕ). a * d * (u * v) + z) r ∙ sym (add-mul (a * d) (b * c) (u * v))

  pub mul_at : (x y : Float) → HasValue x false a c → HasValue y false b d → mul f x y ≡ round f false (a * b) (c * d)
  unfolding mul
  mul_at =
      two_values (λ x y. mul f x y ≡ round f false (a * b) (c * d)) a c b d
      (λ m e n k h l. round_same f false (m * up e * (n * up k)) (down e * down k) (a * b) (c * d) (mul-pos (down_pos e) (down_pos k)) (mul-pos C D)
      (cross (m * up e) (down e) (n * up k) (down k) h l))
    where
      cross : (X u Y v : ℕ) → X * c ≡ a * u → Y * d ≡ b * v → X * Y * (c * d) ≡ a * b * (u * v)
      cross X u Y v h k =
          let l : X * c * (Y * d) ≡ a * u * (Y * d) = ap (λ (z : ℕ). z * (Y * d)) h in
          let r : a * u * (Y * d) ≡ a * u * (b * v) = ap (λ (z : ℕ). a * u * z) k in
          simp (mul_assoc, mul_comm, mul_left_comm) (simp (mul_assoc, mul_comm, mul_left_comm) at (l ∙ r))

  pub div_at : 0 < b → (x y : Float) → HasValue x false a c → HasValue y false b d → div f x y ≡ round f false (a * d) (b * c)
  unfolding div
  div_at B = two_values (λ x y. div f x y ≡ round f false (a * d) (b * c)) a c b d by
    where
      never : (n : ℕ) → 0 < n → n ≡ 0 → ⊥
      never n h z = omega arith

      cross : (X u Y v : ℕ) → X * c ≡ a * u → Y * d ≡ b * v → X * v * (b * c) ≡ a * d * (Y * u)
      cross X u Y v h k =
          let l : X * c * (b * v) ≡ a * u * (b * v) = ap (λ (z : ℕ). z * (b * v)) h in
          let r : a * u * (b * v) ≡ a * u * (Y * d) = ap (λ (z : ℕ). a * u * z) (sym k) in
          simp (mul_assoc, mul_comm, mul_left_comm) (simp (mul_assoc, mul_comm, mul_left_comm) at (l ∙ r))

      by : (m : ℕ) (e : ℤ) (n : ℕ) (k : ℤ) → m * up e * c ≡ a * down e → n * up k * d ≡ b * down k → div f (fin false m e) (fin false n k) ≡ round f false (a * d) (b * c)
      by m e zero k h l = absurd (never (b * down k) (mul-pos B (down_pos k)) (sym l ∙ ap (λ (z : ℕ). z * d) (zero-mul (up k)) ∙ zero-mul d))
      by m e (suc n) k h l =
          ap (λ (t : Bool). cond t (cond (eqb m 0) nan (inf false)) (round f false (m * up e * down k) (suc n * up k * down e))) (eqb-suc-zero n)
          ∙ round_same f false (m * up e * down k) (suc n * up k * down e) (a * d) (b * c) (mul-pos (mul-pos (zero-lt-suc n) (up_pos k)) (down_pos e)) (mul-pos B C)
          (cross (m * up e) (down e) (suc n * up k) (down k) h l)

-- ---- the order of two values is that of the fractions

at_most : (x y : ℕ) → T (ltb x y || (eqb x y && true)) → x ≤ y
at_most x y t = go (ltb x y) (eqb x y) (ltb→lt x y) (eqb→eq x y) t
  where
    go : (p q : Bool) → (T p → x < y) → (T q → x ≡ y) → T (p || (q && true)) → x ≤ y
    go true q h k t = omega (arith, h tt)
    go false true h k t = omega (arith, k tt)
    go false false h k t = absurd t

module _ (x y : Float) (a c b d : ℕ) (p : HasValue x false a c) (q : HasValue y false b d) where
  pub values_le : T (le x y) → a * d ≤ b * c
  unfolding le
  values_le =
      two_values (λ x y. T (le x y) → a * d ≤ b * c) a c b d
      (λ m e n k h l t. transfer a b c d (m * up e) (n * up k) (down e) (down k) (down_pos e) (down_pos k) (sym h) (sym l) (at_most (m * up e * down k) (n * up k * down e) t)) x y p q

  pub values_lt : 0 < c → 0 < d → T (lt x y) → a * d < b * c
  unfolding lt
  values_lt C D =
      two_values (λ x y. T (lt x y) → a * d < b * c) a c b d
      (λ m e n k h l t. lt_of_not-le (λ g. not-le_of_lt (ltb→lt (m * up e * down k) (n * up k * down e) t) (transfer (n * up k) (m * up e) (down k) (down e) b a d c D C l h g))) x y p q

  pub lt_of_values : a * d < b * c → T (lt x y)
  unfolding lt
  lt_of_values g =
      two_values (λ x y. T (lt x y)) a c b d
      (λ m e n k h l. lt→ltb (m * up e * down k) (n * up k * down e)
      (lt_of_not-le (λ i. not-le_of_lt g (transfer b a d c (n * up k) (m * up e) (down k) (down e) (down_pos k) (down_pos e) (sym l) (sym h) i)))) x y p q

-- ---- a rounded fraction that is at most a finite value is finite

has_finite : (x : Float) (a c : ℕ) → HasValue x false a c → T (finite x)
has_finite x a c p = one_value (λ z. T (finite z)) a c (λ m e h. tt) x p

-- and no NaN
pub has_number : (x : Float) (a c : ℕ) → HasValue x false a c → T (not (is_nan x))
unfolding is_nan
has_number x a c p = one_value (λ z. T (not (is_nan z))) a c (λ m e h. tt) x p

units_finite : (f : Format) (q k : ℕ) (y : Float) → T (finite y) → T (le (units f false q k) y) → T (finite (units f false q k))
unfolding units le
units_finite f q k y fy = go (ltb (q * 2 ^ k) (2 ^ (low f + suc (emax f)))) y fy
  where
    go : (b : Bool) (y : Float) → T (finite y) → T (le (cond b (odd (suc (prec f)) false q k (low f)) (inf false)) y) → T (finite (cond b (odd (suc (prec f)) false q k (low f)) (inf false)))
    go true y fy t = has_finite (odd (suc (prec f)) false q k (low f)) (q * 2 ^ k) (2 ^ low f) (odd_sign (suc (prec f)) false q k (low f))
    go false nan fy t = absurd fy
    go false (inf s) fy t = absurd fy
    go false (fin s m e) fy t = absurd t

-- a / c rounded, where a / c is at most the whole number n, which the format holds: its value in units is `grid f a c`, and that is at most n
module _ (f : Format) (a c n : ℕ) (C : 0 < c) (N : n ≤ 2 ^ prec f) (h : a ≤ n * c) where
  below_whole : T (le (round f false a c) (round f false n 1))
  below_whole = round_mono f a c n 1 C (zero-lt-suc 0) (le_trans (le_of_eq (mul-one a)) h)

  pub round_has : HasValue (round f false a c) false (grid f a c) (2 ^ low f)
  round_has =
      round_val f a c (round_under f a c
      (subst (λ (z : Float). T (finite z)) (sym (round_is f false a c))
      (units_finite f (kept (prec f) (a * 2 ^ low f) c) (drop (prec f) (a * 2 ^ low f) c) (round f false n 1) (has_finite (round f false n 1) n 1 (round_whole f false n N))
      (subst (λ (z : Float). T (le z (round f false n 1))) (round_is f false a c) below_whole))))

  pub grid_most : grid f a c ≤ n * 2 ^ low f
  grid_most = le_trans (le_of_eq (sym (mul-one (grid f a c)))) (values_le (round f false a c) (round f false n 1) (grid f a c) (2 ^ low f) n 1 round_has (round_whole f false n N) below_whole)
