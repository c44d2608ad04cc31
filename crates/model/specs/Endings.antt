-- What a call leaves in the lent memory, with each kind of answer and at the limits of the memory. proofs/Endings shows that the definition leaves it so.
use Rattle.std.specs.Prelude.{ℕ, ◌-◌, List, [], ◌∷◌, ◌++◌, length, replicate}
use Rattle.model.specs.Answer.{Answer, plan, refused}
use Rattle.model.specs.Outcome.{Outcome}
use Rattle.model.specs.FileOf.{file}

-- a file, and how many words of workspace and of plan are lent; the answer, and how many of the workspace's first words are zero afterwards
pub record Ending : Type 0 where
  pub project : List ℕ
  pub workspace : ℕ
  pub plan : ℕ
  pub answer : Answer
  pub zeros : ℕ

abbrev pub ending : List ℕ → ℕ → ℕ → Answer → ℕ → Ending
ending project w p a zeros = record { project = project; workspace = w; plan = p; answer = a; zeros = zeros }

-- memory as found: a word of its own in each place
abbrev pub found_in_workspace : ℕ → List ℕ
found_in_workspace n = replicate n 7

abbrev pub found_in_plan : ℕ → List ℕ
found_in_plan n = replicate n 9

abbrev pub words_first : Answer → ℕ → List ℕ
words_first (plan words) n = words ++ found_in_plan (n - length words)
words_first (refused k) n = found_in_plan n

-- all that is left: beyond the zeros and the plan's words, both memories are as found
unfoldable pub left_by : Ending → Outcome
left_by e =
    record { answer = e.answer; workspace = replicate e.zeros 0 ++ found_in_workspace (e.workspace - e.zeros); plan = words_first e.answer e.plan }

abbrev pub one_panel : List ℕ
one_panel = file 3 0 0 ((1, 10, 10, 1, 0, 1) ∷ []) ((7, 10, 10, 1, 0, 0) ∷ [])

abbrev pub its_plan : Answer
its_plan =
    plan (1 ∷ 0 ∷ 1072693248 ∷ 0
    ∷ 6 ∷ 27
    ∷ 1 ∷ 0 ∷ 0 ∷ 10 ∷ 10 ∷ 1000 ∷ 0 ∷ 1 ∷ 0 ∷ 1
    ∷ 7 ∷ 0 ∷ 0 ∷ 0 ∷ 0 ∷ 10 ∷ 10 ∷ 0 ∷ 0
    ∷ 1 ∷ 7 ∷ 0 ∷ 0 ∷ 0 ∷ 0 ∷ 10 ∷ 10 ∷ [])

unfoldable pub endings : List Ending
endings =
    -- too little memory of either kind, and of both: not even the file is looked at
    ending one_panel 16_383 4_500 (refused 1) 0
    ∷ ending one_panel 16_384 4_499 (refused 1) 0
    ∷ ending [] 16_383 4_499 (refused 1) 0
    -- the least memory, and a word more of each
    ∷ ending one_panel 16_384 4_500 its_plan 16_384
    ∷ ending one_panel 16_385 4_501 its_plan 16_384
    -- no file, and nested with a panel
    ∷ ending [] 16_384 4_500 (refused 2) 0
    ∷ ending (file 3 1 0 ((1, 10, 10, 1, 0, 1) ∷ []) ((7, 10, 10, 1, 0, 0) ∷ [])) 16_384 4_500 (refused 14) 0
    -- no panels: a plan of no sheets
    ∷ ending (file 3 0 0 ((1, 10, 10, 1, 0, 1) ∷ []) []) 16_384 4_500 (plan (0 ∷ 0 ∷ 1072693248 ∷ 0 ∷ [])) 0
    ∷ ending (file 3 1 0 [] []) 16_384 4_500 (plan (0 ∷ 0 ∷ 1072693248 ∷ 1 ∷ [])) 0
    -- a panel that fits no board, panels of too much area, no valid candidate
    ∷ ending (file 3 0 0 ((1, 20, 30, 1, 2, 1) ∷ []) ((7, 30, 20, 1, 1, 0) ∷ [])) 16_385 4_501 (refused 15) 16_384
    ∷ ending (file 3 0 0 ((1, 10, 10, 1, 0, 1) ∷ []) ((7, 10, 10, 2, 0, 0) ∷ [])) 16_384 4_500 (refused 16) 16_384
    ∷ ending (file 0 0 0 ((1, 10, 10, 1, 0, 1) ∷ []) ((7, 6, 6, 1, 0, 0) ∷ (8, 6, 6, 1, 0, 0) ∷ [])) 16_384 4_500 (refused 17) 16_384
    ∷ []
