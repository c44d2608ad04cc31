-- A population in the workspace: the definition's candidates in slots that follow one another.
use Rattle.std.specs.Prelude.{ℕ, ◌*◌, ◌≤◌, ◌≡◌, List, [], map, length, get_or, take, drop}
use Rattle.lists.specs.Base.{count_from}
use Rattle.lists.specs.Elements.{All}
use Rattle.model.specs.Candidate.{Candidate}
use Rattle.model.specs.Expand.{ProblemInstance}
use Rattle.candidate.specs.declared.Candidate.{Candidate as Words}
use Rattle.candidate.specs.Stands.{candidate_in, Stands}
use Rattle.search.specs.Slots.{slot_words, slot_of, stored_in}

-- the candidate of words in a slot, and the definition's that it stands for
abbrev pub words_at : ProblemInstance → List ℕ → ℕ → Words
words_at inst ws slot = stored_in ws slot (length inst.cuts)

unfoldable pub candidate_at : ProblemInstance → List ℕ → ℕ → Candidate
candidate_at inst ws slot = candidate_in inst (words_at inst ws slot)

-- that it does, with no more cuts counted as placed than there are
pub record StandsAt (inst : ProblemInstance) (ws : List ℕ) (slot : ℕ) : Type 0 where
  pub stands : Stands inst [] (words_at inst ws slot)
  pub counted : get_or (slot_of ws slot) 1 0 ≤ length inst.cuts

-- n candidates from a slot on
unfoldable pub population_in : ProblemInstance → List ℕ → ℕ → ℕ → List Candidate
population_in inst ws base n = map (candidate_at inst ws) (count_from base n)

unfoldable pub AllStand : ProblemInstance → List ℕ → ℕ → ℕ → Type 0
AllStand inst ws base n = All (StandsAt inst ws) (count_from base n)

-- n slots from one on hold these candidates
pub record Stores (inst : ProblemInstance) (ws : List ℕ) (base n : ℕ) (cs : List Candidate) : Type 0 where
  pub is : population_in inst ws base n ≡ cs
  pub stands : AllStand inst ws base n

-- all words but those of the slots from lo on and before hi are as found
pub record OnlySlots (lo hi : ℕ) (before after : List ℕ) : Type 0 where
  pub before_them : take (slot_words * lo) after ≡ take (slot_words * lo) before
  pub behind_them : drop (slot_words * hi) after ≡ drop (slot_words * hi) before

-- what a step of the search makes of a population, in its own place or another
abbrev pub PopulationBecomes : ProblemInstance → (ProblemInstance → List Candidate → List Candidate) → (before : List ℕ) (base n : ℕ) (after : List ℕ) (to m : ℕ) → Type 0
PopulationBecomes inst step before base n after to m = Stores inst after to m (step inst (population_in inst before base n))
