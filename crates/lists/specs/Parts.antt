-- A part of a list, and a list with a part of it replaced.
use Rattle.std.specs.Prelude.{ℕ, ◌+◌, List, ◌++◌, length, take, drop}

-- n elements from index a
abbrev pub part : {A : Type 0} → List A → ℕ → ℕ → List A
part l a n = take n (drop a l)

-- the elements from index a on replaced by b, all else as found
abbrev pub patch : {A : Type 0} → List A → ℕ → List A → List A
patch l a b = take a l ++ (b ++ drop (a + length b) l)
