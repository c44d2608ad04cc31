-- What a call of the entry answers and leaves: refusal 1, and the rules of the lent memories, over the file and the two lent memories.
use Rattle.std.specs.Prelude.{ℕ, Bool, not, ◌||◌, List, ◌++◌, ltb, eqb, length, get_or, drop, replicate, if◌then◌else◌}
use Rattle.model.specs.Answer.{Answer, plan, refused, answer}

-- the least lent memory, in u32 words
abbrev pub least_workspace : ℕ
least_workspace = 16_384

abbrev pub least_plan : ℕ
least_plan = 4_500

-- the answer, and each lent memory afterwards
pub record Outcome : Type 0 where
  pub answer : Answer
  pub workspace : List ℕ
  pub plan : List ℕ

-- the refusals whose place is after 14's: of the prefilter, and at the end of the search
unfoldable pub is_late : ℕ → Bool
is_late n = eqb n 15 || eqb n 16 || eqb n 17

-- whether an ending leaves the workspace's first words zero: a late refusal, or a plan with a sheet (proofs/Memory and rows of Endings, for each kind of answer)
unfoldable pub clears : Answer → Bool
clears (plan words) = not (eqb (get_or words 0 0) 0)
clears (refused n) = is_late n

-- the first n words zero, the rest as found
unfoldable pub cleared : ℕ → List ℕ → List ℕ
cleared n words = replicate n 0 ++ drop n words

-- a plan's words, and the old values past their end; a refusal leaves all as found
unfoldable pub written : Answer → List ℕ → List ℕ
written (plan words) memory = words ++ drop (length words) memory
written (refused n) memory = memory

unfoldable pub too_small : List ℕ → List ℕ → Bool
too_small workspace memory = ltb (length workspace) least_workspace || ltb (length memory) least_plan

unfoldable pub outcome : List ℕ → List ℕ → List ℕ → Outcome
outcome file workspace memory =
    if too_small workspace memory then record { answer = refused 1; workspace = workspace; plan = memory }
    else record {
      answer = answer file;
      workspace = if clears (answer file) then cleared least_workspace workspace else workspace;
      plan = written (answer file) memory;
    }
