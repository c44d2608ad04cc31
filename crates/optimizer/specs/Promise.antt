-- The entry's one promise: its answer and each lent word afterwards are the definition's, a plan can be trusted, and 15 and 16 say that there is none.
use Rattle.std.specs.Prelude.{ℕ, ◌⊎◌, Result, Ok, Err, ◌≡◌, List, ◌++◌, length, drop}
use Rattle.model.specs.declared.LayoutKind.{LayoutKind}
use Rattle.model.specs.declared.OptimizerEffort.{OptimizerEffort}
use Rattle.model.specs.Expand.{ProblemInstance}
use Rattle.model.specs.Search.{search_numbers, heuristic_variants}
use Rattle.model.specs.Answer.{plan, refused, searched}
use Rattle.model.specs.Answer.{Answer as Answered}
use Rattle.model.specs.Outcome.{least_workspace, outcome}
use Rattle.trust.specs.PieceRules.{PieceRules}
use Rattle.trust.specs.Trusted.{Trusted}
use Rattle.project.specs.declared.Refusal.{Refusal}
use Rattle.project.specs.Refusals.{refusal_number}

-- the number that an answer is told by: 0 for a plan
abbrev pub number_of : Result (Unit {0}) Refusal → ℕ
number_of (Ok u) = 0
number_of (Err r) = refusal_number r

abbrev pub number_of_answer : Answered → ℕ
number_of_answer (plan words) = 0
number_of_answer (refused n) = n

-- what the search ends in: a plan's words first and the old values behind them, or a refusal and the memory as found
abbrev pub EndsIn : Answered → Result (Unit {0}) Refusal → (before after : List ℕ) → Type 0
EndsIn a (Ok u) before after = (words : List ℕ) × (a ≡ plan words) × (after ≡ words ++ drop (length words) before)
EndsIn a (Err r) before after = (a ≡ refused (refusal_number r)) × (after ≡ before)

pub record Ends (a : Answered) (r : Result (Unit {0}) Refusal) (before after : List ℕ) : Type 0 where
  pub ends : EndsIn a r before after

-- a search of a project's instances: how it ends, and the words of the workspace that it does not touch
abbrev pub Searches : ProblemInstance → OptimizerEffort → Result (Unit {0}) Refusal → (memory memory_after words words_after : List ℕ) → Type 0
Searches inst effort r memory memory_after words words_after =
    Ends (searched heuristic_variants LayoutKind.Guillotine inst (search_numbers effort)) r memory memory_after
    × (drop least_workspace words_after ≡ drop least_workspace words)

-- `words` are the workspace's, `memory` the plan's, each before and after the call
pub record Promise (file words memory : List ℕ) (number : ℕ) (words_after memory_after : List ℕ) : Type 0 where
  -- the answer's number: a plan, or refusal 1 to 17 in order
  pub answer : number ≡ number_of_answer (outcome file words memory).answer
  -- the plan's words, then the old values; untouched on a refusal
  pub plan : memory_after ≡ (outcome file words memory).plan
  -- after 15, 16, 17 or a plan with a sheet its first 16,384 words are zero and the rest as found; else all are as found
  pub workspace : words_after ≡ (outcome file words memory).workspace
  -- a plan that is answered can be trusted
  pub trusted : number ≡ 0 → Trusted file memory_after
  -- and where the answer is 15 or 16 there is no plan: no words obey the rules of pieces
  pub impossible : (number ≡ 15) ⊎ (number ≡ 16) → (words : List ℕ) → PieceRules file words → ⊥
