-- A list in an array of fixed room, each unused place of which holds a blank: so the list gives the array back.
use Rattle.std.specs.Prelude.{ℕ, ◌-◌, ◌≤◌, ◌≡◌, List, ◌++◌, length, drop, replicate}

module _ {A : Type 0} where
  -- the first `count` places of the array are used, and the others are blank
  abbrev pub Padded : A → ℕ → List A → ℕ → Type 0
  Padded blank room array count = (count ≤ room) × (length array ≡ room) × (drop count array ≡ replicate (room - count) blank)

  -- the array of a list
  abbrev pub padded : A → ℕ → List A → List A
  padded blank room l = l ++ replicate (room - length l) blank
