-- Numbers as text, in ASCII.
use Rattle.std.specs.Prelude.{ℕ, zero, suc, ◌+◌, ◌/◌, ◌%◌, List, [], ◌∷◌, ◌++◌, ltb, if◌then◌else◌}

-- the decimal digits, the most significant first and no zero before it, as far as the first number's many steps find them
unfoldable pub decimal_within : ℕ → ℕ → List ℕ
decimal_within zero n = []
decimal_within (suc steps) n = (if ltb n 10 then [] else decimal_within steps (n / 10)) ++ ((48 + n % 10) ∷ [])

-- n + 1 steps find all digits of n
unfoldable pub decimal_of : ℕ → List ℕ
decimal_of n = decimal_within (suc n) n

-- `0` to `9`, then `A` to `F`
unfoldable pub hex_digit : ℕ → ℕ
hex_digit d = if ltb d 10 then 48 + d else 55 + d

-- the last `count` hexadecimal digits, the most significant first
unfoldable pub hex_digits : ℕ → ℕ → List ℕ
hex_digits zero n = []
hex_digits (suc count) n = hex_digits count (n / 16) ++ (hex_digit (n % 16) ∷ [])

-- 64 bits
abbrev pub hex_of : ℕ → List ℕ
hex_of n = hex_digits 16 n
