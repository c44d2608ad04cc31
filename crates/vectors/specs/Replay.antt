-- What a replay of a corpus finds: pairs of a project file and a text, each behind its length in four bytes, the lowest first.
use Rattle.std.specs.Prelude.{ℕ, zero, suc, ◌+◌, Bool, Some, None, List, [], ◌∷◌, length, take, drop, ltb, replicate, bytes_eq, if◌then◌else◌}
use Rattle.std.specs.Option.{option_or}
use Rattle.std.specs.Int.{w32, from_le_bytes}
use Rattle.text.specs.Text.{printed}
use Rattle.vectors.specs.declared.Tally.{Tally}

-- ---- the parts of a corpus

-- the part that a corpus begins with, and what is behind it; where the corpus ends before the part does, the part is what there is
unfoldable pub first_part : List ℕ → List ℕ
first_part corpus = if ltb (length corpus) 4 then [] else take (from_le_bytes w32 (take 4 corpus)) (drop 4 corpus)

unfoldable pub behind_part : List ℕ → List ℕ
behind_part corpus = if ltb (length corpus) 4 then [] else drop (from_le_bytes w32 (take 4 corpus)) (drop 4 corpus)

-- ---- the pairs

-- whether the text is what is printed for the file
unfoldable pub is_equal : List ℕ → List ℕ → Bool
is_equal file text = bytes_eq (printed file) text

abbrev pub no_pairs : Tally
no_pairs = record { pairs = 0; equal = 0; first_other = None }

-- one pair more
unfoldable pub counted : Tally → Bool → Tally
counted t equal =
    if equal
    then record { pairs = t.pairs + 1; equal = t.equal + 1; first_other = t.first_other }
    else record { pairs = t.pairs + 1; equal = t.equal; first_other = option_or t.first_other (Some (t.pairs + 1)) }

-- the pairs of a corpus, at most so many
unfoldable pub replayed : ℕ → Tally → List ℕ → Tally
replayed zero tally corpus = tally
replayed (suc most) tally [] = tally
replayed (suc most) tally (b ∷ bytes) =
    let behind = behind_part (b ∷ bytes) in
    replayed most (counted tally (is_equal (first_part (b ∷ bytes)) (first_part behind))) (behind_part behind)

-- ---- room

-- so many bytes of zero
unfoldable pub zeros : ℕ → List ℕ
zeros n = replicate n 0
