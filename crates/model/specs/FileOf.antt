-- A project file from its numbers, for the tables.
use Rattle.std.specs.Prelude.{ℕ, zero, suc, ◌+◌, ◌*◌, ◌/◌, ◌%◌, List, [], ◌∷◌, ◌++◌, length}
use Rattle.lists.specs.Base.{concat_map}

abbrev pub bytes_of : ℕ → ℕ → List ℕ
bytes_of zero n = []
bytes_of (suc k) n = n % 256 ∷ bytes_of k (n / 256)

-- id, width, length, quantity, pattern, finite or can_rotate
abbrev pub RecordNumbers : Type 0
RecordNumbers = ℕ × ℕ × ℕ × ℕ × ℕ × ℕ

unfoldable pub record_bytes : RecordNumbers → List ℕ
record_bytes r =
    bytes_of 8 r.0 ++ bytes_of 4 r.1 ++ bytes_of 4 r.2 ++ bytes_of 4 r.3 ++ bytes_of 1 r.4 ++ bytes_of 1 r.5 ++ bytes_of 2 0

-- kerf, layout, effort, stock, cuts
unfoldable pub file : ℕ → ℕ → ℕ → List RecordNumbers → List RecordNumbers → List ℕ
unfolding record_bytes
file kerf layout effort stock cuts =
    bytes_of 4 24 ++ bytes_of 4 8 ++ bytes_of 4 32 ++ bytes_of 4 (24 * length stock) ++ bytes_of 4 (32 + 24 * length stock) ++ bytes_of 4 (24 * length cuts)
    ++ bytes_of 4 kerf ++ (layout ∷ effort ∷ 0 ∷ 0 ∷ [])
    ++ concat_map record_bytes stock ++ concat_map record_bytes cuts
