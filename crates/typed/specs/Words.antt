-- The words of a line that a person has typed, and what a word says.
use Rattle.std.specs.Prelude.{ℕ, ◌+◌, ◌-◌, ◌*◌, Bool, ◌&&◌, ◌||◌, not, Option, Some, None, List, [], ◌∷◌, leb, eqb, drop, bytes_eq, if◌then◌else◌}
use Rattle.std.specs.List.{position_or_len, before_first}

-- ---- words

-- a space, a tab, a carriage return
abbrev pub is_blank : ℕ → Bool
is_blank c = eqb c 32 || eqb c 9 || eqb c 13

-- a blank or `#`, which begins a comment
abbrev pub ends_word : ℕ → Bool
ends_word c = is_blank c || eqb c 35

-- all but a blank
abbrev pub ends_space : ℕ → Bool
ends_space c = not (is_blank c)

-- what is left of a text from the first byte on that passes a test
abbrev pub from_first : (ℕ → Bool) → List ℕ → List ℕ
from_first p text = drop (position_or_len p text) text

unfoldable pub behind_space : List ℕ → List ℕ
behind_space rest = from_first ends_space rest

-- the first word of what is left of a line, none at its end or a comment; and what is left behind it
unfoldable pub first_word : List ℕ → List ℕ
first_word rest = before_first ends_word (behind_space rest)

unfoldable pub after_word : List ℕ → List ℕ
after_word rest = from_first ends_word (behind_space rest)

-- ---- what a word says

-- decimal digits behind a number, none where one of them is no digit or the number becomes too large
unfoldable pub read_digits : ℕ → ℕ → List ℕ → Option ℕ
read_digits most n [] = Some n
read_digits most n (c ∷ cs) =
    if leb 48 c && leb c 57 && leb (10 * n + (c - 48)) most then read_digits most (10 * n + (c - 48)) cs else None

-- a decimal number up to a largest one
unfoldable pub decimal_value : ℕ → List ℕ → Option ℕ
decimal_value most [] = None
decimal_value most (c ∷ cs) = read_digits most 0 (c ∷ cs)

-- the number of the word in a table, counted from k on
unfoldable pub code_in : ℕ → List (List ℕ) → List ℕ → Option ℕ
code_in k [] word = None
code_in k (t ∷ ts) word = if bytes_eq word t then Some k else code_in (k + 1) ts word
