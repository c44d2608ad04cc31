-- The two regions of the workspace, and a child behind a population.
use Rattle.std.specs.Prelude.{ℕ, ◌+◌, ◌*◌, ◌≡◌, ◌⊎◌, List, drop, Option as Child, None, Some}
use Rattle.candidate.specs.declared.Candidate.{Candidate as Words}
use Rattle.search.specs.Slots.{slot_words, store_in}

-- where a population begins
abbrev pub Region : ℕ → Type 0
Region base = (base ≡ 0) ⊎ (base ≡ 48)

-- the words behind the two regions; the 12,480 before them are the search's own and may hold anything
unfoldable pub behind_slots : List ℕ → List ℕ
behind_slots ws = drop (slot_words * 96) ws

-- a child, if there is one, is stored behind the last candidate
abbrev pub PushesChild : (base size : ℕ) → Child Words → (before after : List ℕ) → (r : ℕ) → Type 0
PushesChild base size None before after r = (after ≡ before) × (r ≡ size)
PushesChild base size (Some c) before after r = (after ≡ store_in before (base + size) c) × (r ≡ size + 1)
