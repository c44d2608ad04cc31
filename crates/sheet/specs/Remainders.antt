-- What a split leaves of one side.
use Rattle.std.specs.Prelude.{ℕ, ◌+◌, ◌-◌, List, [], ◌∷◌, ltb, if◌then◌else◌}

-- of a side with a piece at its beginning: what lies behind the kerf, if it is larger than that, as its beginning and its length
abbrev pub rest_behind : ℕ → ℕ → ℕ → ℕ → List (ℕ × ℕ)
rest_behind kerf start side placed =
    if ltb kerf (side - placed) then (start + placed + kerf, side - placed - kerf) ∷ [] else []
