-- `line_words::more_digits` meets its contract: each way out, by the tests that led there.
use Rattle.std.proofs.Common.{◌≡◌, inl, inr, sym, ℕ, ◌+◌, ◌-◌, ◌*◌, ◌≤◌, ◌<◌, arith}
use Rattle.std.specs.Char.{IsDigitOf}
use Rattle.typed.proofs.line.Values.{digit_good, digit_bad}
use Rattle.typed.proofs.line_words.more_digits.Goals as goal

-- a digit below ten is one of `0` to `9`
decimal : (c d : ℕ) → IsDigitOf c d → d < 10 → (48 ≤ c) × (c ≤ 57) × (d ≡ c - 48)
decimal c d (inl h) below = (omega arith, omega arith, omega arith)
decimal c d (inr (inl h)) below = absurd (omega arith)
decimal c d (inr (inr h)) below = absurd (omega arith)

pub returns-in_err-digit : goal.returns-in_err-digit
returns-in_err-digit c = rw c.from_residual.ensures (sym (digit_bad _ _ _ (λ a b d. omega (arith, c.in_err-digit.ensures.cases))))

pub returns-in_err-checked_mul : goal.returns-in_err-checked_mul
returns-in_err-checked_mul c = rw c.from_residual-in_err-checked_mul.ensures (sym (digit_bad _ _ _ (λ a b d. omega (arith, c.in_err-checked_mul.ensures))))

pub returns-in_err-more : goal.returns-in_err-more
returns-in_err-more c =
    let digit = decimal _ _ c.in_ok-digit.ensures.cases (omega (arith, c.in_ok-digit.ensures.value)) in
    rw c.from_residual-in_err-more.ensures (sym (digit_bad _ _ _ (λ a b d. omega (arith, digit, c.in_ok-checked_mul.ensures, c.in_err-more.ensures))))

pub returns-then-more-most : goal.returns-then-more-most
returns-then-more-most c =
    let digit = decimal _ _ c.in_ok-digit.ensures.cases (omega (arith, c.in_ok-digit.ensures.value)) in
    sym (digit_bad _ _ _ (λ a b d. omega (arith, digit, c.in_ok-checked_mul.ensures, c.in_ok-more.ensures)))

pub returns : goal.returns
returns c =
    let digit = decimal _ _ c.in_ok-digit.ensures.cases (omega (arith, c.in_ok-digit.ensures.value)) in
    let more : c.in_ok-more.more ≡ 10 * c.args.number + (c.args.byte - 48) = omega (arith, digit, c.in_ok-checked_mul.ensures, c.in_ok-more.ensures) in
    rw more (sym (digit_good _ _ _ (omega (arith, digit)) (omega (arith, digit)) (omega arith)))
