-- Keys by their numbers: whether one is among others, and whether one is there twice. So whether a candidate of words is valid.
use Rattle.std.specs.Prelude.{ℕ, Bool, false, not, ◌&&◌, ◌||◌, List, [], ◌∷◌, map, eqb}
use Rattle.lists.specs.Base.{any, is_empty}
use Rattle.candidate.specs.declared.Candidate.{Candidate as Words}
use Rattle.candidate.specs.Entries.{cut_of}
use Rattle.candidate.specs.Stands.{placed_words, unused_numbers}

-- contains_key
unfoldable pub elem : ℕ → List ℕ → Bool
elem key keys = any (eqb key) keys

-- has_duplicate_placed_cut_keys: a key among those behind it
unfoldable pub repeats : List ℕ → Bool
repeats [] = false
repeats (key ∷ keys) = elem key keys || repeats keys

-- is_valid, of any words: no cut is unused, and none is placed twice
unfoldable pub valid_words : Words → Bool
valid_words c = is_empty (unused_numbers c) && not (repeats (map cut_of (placed_words c)))
