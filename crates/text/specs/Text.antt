-- What `cutplan` prints for a project file: the text of its plan, or the number of its refusal.
use Rattle.std.specs.Prelude.{ℕ, List, [], ◌∷◌, ◌++◌, eqb, replicate, if◌then◌else◌}
use Rattle.model.specs.Outcome.{Outcome, least_workspace, least_plan, outcome}
use Rattle.optimizer.specs.Promise.{number_of_answer}
use Rattle.words.specs.Ascii.{ascii}
use Rattle.words.specs.Numerals.{decimal_of}
use Rattle.text.specs.PlanText.{plan_text}

unfoldable pub refusal_text : ℕ → List ℕ
refusal_text number = ascii "refused " ++ (decimal_of number ++ (10 ∷ []))

-- of an answer's number and the plan memory
unfoldable pub answer_text : ℕ → List ℕ → List ℕ
answer_text number memory = if eqb number 0 then plan_text memory else refusal_text number

-- what the entry leaves in memory of the least size, all zero before
abbrev pub planned : List ℕ → Outcome
planned file = outcome file (replicate least_workspace 0) (replicate least_plan 0)

unfoldable pub printed : List ℕ → List ℕ
printed file = answer_text (number_of_answer (planned file).answer) (planned file).plan

-- no file has a longer text: a plan of 64 sheets with 64 pieces
abbrev pub most_text : ℕ
most_text = 45_371
