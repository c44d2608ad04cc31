-- A slot of the workspace: the words of one candidate, and the candidate of words that they are.
use Rattle.std.specs.Prelude.{ℕ, ◌+◌, ◌-◌, ◌*◌, ◌≤◌, List, ◌∷◌, ◌++◌, length, get_or}
use Rattle.lists.specs.Parts.{part, patch}
use Rattle.candidate.specs.declared.Candidate.{Candidate as Words}
use Rattle.candidate.specs.Stands.{placed_words, unused_numbers}

-- the words of a slot: two counts, the boards, the cuts
abbrev pub slot_words : ℕ
slot_words = 130

abbrev pub slot_of : List ℕ → ℕ → List ℕ
slot_of ws slot = part ws (slot_words * slot) slot_words

-- ---- a candidate's words

unfoldable pub packed : Words → List ℕ
packed c = c.sheets ∷ length (placed_words c) ∷ (c.boards ++ (placed_words c ++ unused_numbers c))

-- the candidate of so many cuts in a slot
unfoldable pub unpacked : ℕ → List ℕ → Words
unpacked cuts block =
    let placed = get_or block 1 0 in
    record {
      boards = part block 2 64;
      sheets = get_or block 0 0;
      insertions = record { items = part block 66 placed };
      unused = record { items = part block (66 + placed) (cuts - placed) };
    }

-- what is in a slot, and what a store leaves: the slot's words past the candidate's are as found, and so are all others
unfoldable pub stored_in : List ℕ → ℕ → ℕ → Words
stored_in ws slot cuts = unpacked cuts (slot_of ws slot)

unfoldable pub store_in : List ℕ → ℕ → Words → List ℕ
store_in ws slot c = patch ws (slot_words * slot) (packed c)

-- counts that a slot has room for
pub record Storable (c : Words) : Type 0 where
  pub sheets : c.sheets ≤ 64
  pub cuts : length (placed_words c) + length (unused_numbers c) ≤ 64
