-- The digits and the bytes of a number, one more at a time.
use Rattle.std.specs.Prelude.{if◌then◌else◌}
use Prim.Native.Nat.{ℕ, zero, suc, ◌+◌, ◌-◌, ◌/◌, ◌%◌, ◌≤◌, ◌<◌}
use native.Mathlib.Nat.{mod-eq_of_lt}
use native.Mathlib.Omega.{arith}
use mathlib.Core.Path.{◌≡◌, refl, ap}
use mathlib.Core.Bool.{Bool, true, false}
use mathlib.Core.List.{List, [], ◌∷◌, ◌++◌}
use lib.Dec.{ltb}
use Rattle.model.specs.FileOf.{bytes_of}
use Rattle.words.specs.Numerals.{decimal_within, decimal_of, hex_digit, hex_digits}
use borrow.Author.Tests.{lt-ltb, le-ltb, ltb-false}

-- ---- decimal digits

-- an else-branch that matters only where it is taken
else_same : (t : Bool) (x y : List ℕ) → (t ≡ false → x ≡ y) → (if t then [] else x) ≡ (if t then [] else y)
else_same true x y h = refl
else_same false x y h = h refl

-- more steps than the number find no more digits
within : (a b n : ℕ) → n < a → n < b → decimal_within a n ≡ decimal_within b n
unfolding decimal_within
within zero b n h k = absurd (omega arith)
within (suc a) zero n h k = absurd (omega arith)
within (suc a) (suc b) n h k =
    ap (λ (r : List ℕ). r ++ ((48 + n % 10) ∷ []))
    (else_same (ltb n 10) (decimal_within a (n / 10)) (decimal_within b (n / 10))
    (λ e. within a b (n / 10) (omega (arith, ltb-false n 10 e)) (omega (arith, ltb-false n 10 e))))

pub decimal_digit : (n : ℕ) → n < 10 → decimal_of n ≡ (48 + n) ∷ []
unfolding decimal_of decimal_within
decimal_digit n h = rw (lt-ltb n 10 h, mod-eq_of_lt h)

pub decimal_more : (n : ℕ) → 10 ≤ n → decimal_of n ≡ decimal_of (n / 10) ++ ((48 + n % 10) ∷ [])
unfolding decimal_of decimal_within
decimal_more n h = rw (le-ltb n 10 h) (ap (λ (r : List ℕ). r ++ ((48 + n % 10) ∷ [])) (within n (suc (n / 10)) (n / 10) (omega arith) (omega arith)))

-- ---- hexadecimal digits

pub hex_digit_low : (d : ℕ) → d < 10 → hex_digit d ≡ 48 + d
unfolding hex_digit
hex_digit_low d h = rw (lt-ltb d 10 h)

pub hex_digit_high : (d : ℕ) → 10 ≤ d → hex_digit d ≡ 55 + d
unfolding hex_digit
hex_digit_high d h = rw (le-ltb d 10 h)

pub hex_none : (count n : ℕ) → count ≡ 0 → hex_digits count n ≡ []
unfolding hex_digits
hex_none zero n e = refl
hex_none (suc count) n e = absurd (omega arith)

pub hex_more : (count n : ℕ) → (count ≡ 0 → ⊥) → hex_digits count n ≡ hex_digits (count - 1) (n / 16) ++ (hex_digit (n % 16) ∷ [])
unfolding hex_digits
hex_more zero n h = absurd (h refl)
hex_more (suc count) n h = let f : suc count - 1 ≡ count = omega arith in rw f

-- ---- the bytes of a number

pub bytes_none : (count n : ℕ) → count ≡ 0 → bytes_of count n ≡ []
bytes_none zero n e = refl
bytes_none (suc count) n e = absurd (omega arith)

pub bytes_more : (count n : ℕ) → (count ≡ 0 → ⊥) → bytes_of count n ≡ (n % 256 ∷ []) ++ bytes_of (count - 1) (n / 256)
bytes_more zero n h = absurd (h refl)
bytes_more (suc count) n h = let f : suc count - 1 ≡ count = omega arith in rw f
