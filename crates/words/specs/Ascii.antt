-- A word of a definition as the bytes that code reads and writes.
use Rattle.std.specs.Prelude.{ℕ, List, [], ◌∷◌}
use Prim.Native.Char.{code}
use Prim.Native.String.{String, [] as end, ◌∷◌ as ◌then◌}

abbrev pub ascii : String → List ℕ
ascii end = []
ascii (c then s) = code c ∷ ascii s
