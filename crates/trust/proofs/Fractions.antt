-- Float values between two bounds through the operations of a fitness: a quotient, a product, a sum, each rounded once. Rounding keeps the order, so
-- what lies between two values of the format still does.
use Prim.Native.Nat.{ℕ, suc, ◌+◌, ◌-◌, ◌*◌, ◌^◌, ◌≤◌, ◌<◌}
use native.Mathlib.Nat.{le_trans, le_of_eq, lt_of_lt_of_le, mul_assoc, mul_comm, mul_left_comm, mul-one, one-mul, mul-pos, add-mul, add-le-add, le-add_left, mul-le-mul, mul-le-mul_left, mul-le-mul_right, zero-lt-suc}
use native.Mathlib.Omega.{arith}
use mathlib.Core.Path.{◌≡◌, sym, ap, ◌∙◌, subst}
use mathlib.Core.Bool.{false}
use lib.Dec.{lit<}
use lib.Pow.{pow_pos, pow-add, pow-lt, pow_mono}
use lib.Ieee.{Float, Format, prec, emax, low, add, mul, div, round}
use lib.Ieee.Exact.{HasValue, round_exact}
use lib.Ieee.Fits.{two}
use lib.Ieee.Order.{round_mono}
use lib.Ieee.Scale.{grid}
use Rattle.trust.proofs.Rounding.{add_at, mul_at, div_at, values_le, round_has, grid_most}

-- x is finite, not negative and at most n; in units of the format's smallest value it is v
pub record Upto (f : Format) (x : Float) (n : ℕ) : Type 0 where
  pub v : ℕ
  pub has : HasValue x false v (2 ^ low f)
  pub most : v ≤ n * 2 ^ low f

-- and at least 1 / 2 ^ k
pub record Between (f : Format) (x : Float) (k n : ℕ) : Type 0 where
  pub v : ℕ
  pub has : HasValue x false v (2 ^ low f)
  pub least : 2 ^ low f ≤ v * 2 ^ k
  pub most : v ≤ n * 2 ^ low f

pub between_upto : {f : Format} {x : Float} {k n : ℕ} → Between f x k n → Upto f x n
between_upto b = record { v = b.v; has = b.has; most = b.most }

module _ (f : Format) where
  abbrev D : ℕ
  D = 2 ^ low f

  D_pos : 0 < D
  D_pos = pow_pos (low f)

  -- ---- a rounded fraction

  upto_round : (a c n : ℕ) → 0 < c → n ≤ 2 ^ prec f → a ≤ n * c → Upto f (round f false a c) n
  upto_round a c n C N h = record { v = grid f a c; has = round_has f a c n C N h; most = grid_most f a c n C N h }

  -- 1 / 2 ^ k is a value of the format
  power_held : (k : ℕ) → k ≤ low f → HasValue (round f false 1 (2 ^ k)) false 1 (2 ^ k)
  power_held k h =
      round_exact f false 1 (2 ^ k) 1 (low f - k) (pow_pos k) (lt_of_lt_of_le one_two (pow_mono (some_digits (two f))))
      (subst (λ (z : ℕ). z < 2 ^ (low f + suc (emax f))) (sym (one-mul (2 ^ (low f - k)))) (pow-lt (below (low f) k (emax f))))
      (one-mul D ∙ whole ∙ ap (λ (z : ℕ). z * 2 ^ k) (sym (one-mul (2 ^ (low f - k)))))
    where
      one_two : 1 < 2 ^ 1
      one_two = lit< tt

      some_digits : 2 ≤ prec f → 1 ≤ prec f
      some_digits t = omega arith

      below : (l j e : ℕ) → l - j < l + suc e
      below l j e = omega arith

      whole : D ≡ 2 ^ (low f - k) * 2 ^ k
      whole = ap (λ (z : ℕ). 2 ^ z) (split (low f) k h) ∙ pow-add 2 (low f - k) k
        where
          split : (l j : ℕ) → j ≤ l → l ≡ l - j + j
          split l j p = omega arith

  between_round : (a c k n : ℕ) → 0 < c → n ≤ 2 ^ prec f → a ≤ n * c → k ≤ low f → c ≤ a * 2 ^ k → Between f (round f false a c) k n
  between_round a c k n C N h K l =
      record {
        v = grid f a c;
        has = round_has f a c n C N h;
        least =
            le_trans (le_of_eq (sym (one-mul D)))
            (values_le (round f false 1 (2 ^ k)) (round f false a c) 1 (2 ^ k) (grid f a c) D (power_held k K) (round_has f a c n C N h)
            (round_mono f 1 (2 ^ k) a c (pow_pos k) C (le_trans (le_of_eq (one-mul c)) l)));
        most = grid_most f a c n C N h;
      }

  -- ---- the operations, with a whole number's float as a value n / 1

  -- p / a, at most 1
  part_most : (p a : ℕ) → p ≤ a → p * 1 ≤ 1 * (a * 1)
  part_most p a h = omega (arith, mul-one p, mul-one a, one-mul (a * 1))

  pub part_upto : (x y : Float) (p a : ℕ) → HasValue x false p 1 → HasValue y false a 1 → 0 < a → p ≤ a → Upto f (div f x y) 1
  part_upto x y p a hx hy A h =
      subst (λ (z : Float). Upto f z 1) (sym (div_at f p 1 a 1 (zero-lt-suc 0) (zero-lt-suc 0) A x y hx hy))
      (upto_round (p * 1) (a * 1) 1 (mul-pos A (zero-lt-suc 0)) (pow_pos (prec f)) (part_most p a h))

  pub part : (x y : Float) (p a k : ℕ) → HasValue x false p 1 → HasValue y false a 1 → 0 < p → p ≤ a → a ≤ 2 ^ k → k ≤ low f → Between f (div f x y) k 1
  part x y p a k hx hy P h A K =
      subst (λ (z : Float). Between f z k 1) (sym (div_at f p 1 a 1 (zero-lt-suc 0) (zero-lt-suc 0) (lt_of_lt_of_le P h) x y hx hy))
      (between_round (p * 1) (a * 1) k 1 (mul-pos (lt_of_lt_of_le P h) (zero-lt-suc 0)) (pow_pos (prec f)) (part_most p a h) K
      (le_trans (le_of_eq (mul-one a)) (le_trans A (le_trans (le_of_eq (sym (one-mul (2 ^ k)))) (mul-le-mul_right (2 ^ k) (le_trans P (le_of_eq (sym (mul-one p)))))))))

  -- a share of a whole
  times_most : (v a : ℕ) → v ≤ 1 * D → v * a ≤ a * (D * 1)
  times_most v a h = le_trans (mul-le-mul_right a h) (le_of_eq (ap (λ (z : ℕ). z * a) (one-mul D) ∙ mul_comm D a ∙ ap (λ (z : ℕ). a * z) (sym (mul-one D))))

  pub times_upto : (x y : Float) (a : ℕ) → Upto f x 1 → HasValue y false a 1 → a ≤ 2 ^ prec f → Upto f (mul f x y) a
  times_upto x y a u q N =
      subst (λ (z : Float). Upto f z a) (sym (mul_at f u.v D a 1 D_pos (zero-lt-suc 0) x y u.has q))
      (upto_round (u.v * a) (D * 1) a (mul-pos D_pos (zero-lt-suc 0)) N (times_most u.v a u.most))

  pub times : (x y : Float) (a k : ℕ) → Between f x k 1 → HasValue y false a 1 → 0 < a → a ≤ 2 ^ prec f → k ≤ low f → Between f (mul f x y) k a
  times x y a k u q A N K =
      subst (λ (z : Float). Between f z k a) (sym (mul_at f u.v D a 1 D_pos (zero-lt-suc 0) x y u.has q))
      (between_round (u.v * a) (D * 1) k a (mul-pos D_pos (zero-lt-suc 0)) N (times_most u.v a u.most) K
      (le_trans (le_of_eq (mul-one D)) (le_trans u.least (mul-le-mul_right (2 ^ k) (at_least u.v a A)))))
    where
      at_least : (m n : ℕ) → 0 < n → m ≤ m * n
      at_least m n h = le_trans (le_of_eq (sym (mul-one m))) (mul-le-mul_left m h)

  plus_most : (v w m n : ℕ) → v ≤ m * D → w ≤ n * D → v * D + w * D ≤ (m + n) * (D * D)
  plus_most v w m n h k =
      le_trans (add-le-add (mul-le-mul_right D h) (mul-le-mul_right D k))
      (le_of_eq (sym (add-mul (m * D) (n * D) D) ∙ ap (λ (z : ℕ). z * D) (sym (add-mul m n D)) ∙ mul_assoc (m + n) D D))

  pub plus_upto : (x y : Float) (m n : ℕ) → Upto f x m → Upto f y n → m + n ≤ 2 ^ prec f → Upto f (add f x y) (m + n)
  plus_upto x y m n u w N =
      subst (λ (z : Float). Upto f z (m + n)) (sym (add_at f u.v D w.v D D_pos D_pos x y u.has w.has))
      (upto_round (u.v * D + w.v * D) (D * D) (m + n) (mul-pos D_pos D_pos) N (plus_most u.v w.v m n u.most w.most))

  pub plus : (x y : Float) (k m n : ℕ) → Upto f x m → Between f y k n → m + n ≤ 2 ^ prec f → k ≤ low f → Between f (add f x y) k (m + n)
  plus x y k m n u w N K =
      subst (λ (z : Float). Between f z k (m + n)) (sym (add_at f u.v D w.v D D_pos D_pos x y u.has w.has))
      (between_round (u.v * D + w.v * D) (D * D) k (m + n) (mul-pos D_pos D_pos) N (plus_most u.v w.v m n u.most w.most) K
      (le_trans (mul-le-mul_right D w.least) (le_trans (le_of_eq (swap w.v (2 ^ k) D)) (mul-le-mul_right (2 ^ k) (le-add_left (w.v * D) (u.v * D))))))
    where
      swap : (a b c : ℕ) → a * b * c ≡ a * c * b
      swap a b c = simp (mul_assoc, mul_comm, mul_left_comm)

  -- by a whole that it is at most
  quotient_most : (v n : ℕ) → v ≤ n * D → v * 1 ≤ 1 * (n * D)
  quotient_most v n h = le_trans (le_of_eq (mul-one v)) (le_trans h (le_of_eq (sym (one-mul (n * D)))))

  pub quotient_upto : (x y : Float) (n : ℕ) → Upto f x n → HasValue y false n 1 → 0 < n → Upto f (div f x y) 1
  quotient_upto x y n u q N =
      subst (λ (z : Float). Upto f z 1) (sym (div_at f u.v D n 1 D_pos (zero-lt-suc 0) N x y u.has q))
      (upto_round (u.v * 1) (n * D) 1 (mul-pos N D_pos) (pow_pos (prec f)) (quotient_most u.v n u.most))

  pub quotient : (x y : Float) (k j n : ℕ) → Between f x k n → HasValue y false n 1 → 0 < n → n ≤ 2 ^ j → j + k ≤ low f → Between f (div f x y) (j + k) 1
  quotient x y k j n u q N J K =
      subst (λ (z : Float). Between f z (j + k) 1) (sym (div_at f u.v D n 1 D_pos (zero-lt-suc 0) N x y u.has q))
      (between_round (u.v * 1) (n * D) (j + k) 1 (mul-pos N D_pos) (pow_pos (prec f)) (quotient_most u.v n u.most) K
      (le_trans (mul-le-mul J u.least) (le_of_eq (shape (2 ^ j) u.v (2 ^ k) ∙ ap (λ (z : ℕ). u.v * 1 * z) (sym (pow-add 2 j k))))))
    where
      shape : (a b c : ℕ) → a * (b * c) ≡ b * 1 * (a * c)
      shape a b c = simp (mul-one, mul_assoc, mul_comm, mul_left_comm)
