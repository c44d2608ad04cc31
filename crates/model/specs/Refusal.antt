-- The order of the checks that refuse a file, from 2 to 14, as one table: the first that applies is given.
-- (1 is about lent memory: `Outcome`. 15 to 17 are the search's: `Answer`.)
use Rattle.std.specs.Prelude.{ℕ, ◌+◌, Bool, not, ◌&&◌, ◌||◌, List, [], ◌∷◌, ◌++◌, map, ltb, eqb, if◌then◌else◌}
use Rattle.std.proofs.Math.Option.{Option, none, some}
use Rattle.lists.specs.Base.{◌<|>◌, sum, any, is_empty}
use Rattle.model.specs.Project.{Record, Project, project_of, well_formed}

-- a check of the table: a refusal's number, and whether its condition holds
abbrev pub Check : Type 0
Check = ℕ × Bool

-- the number of the first condition that holds
unfoldable pub first_that_applies : List Check → Option ℕ
first_that_applies [] = none
first_that_applies (c ∷ cs) = (if c.1 then some c.0 else none) <|> first_that_applies cs

-- the largest width, length and kerf, and the most instances of a kind
abbrev pub most_side : ℕ
most_side = 1_000_000

abbrev pub most_instances : ℕ
most_instances = 64

-- ---- settings

unfoldable pub settings_checks : Project → List Check
settings_checks p =
    (3, ltb 1 p.layout || ltb 2 p.effort || ltb 2 p.unit || not (eqb p.spare 0))
    ∷ (4, ltb most_side p.kerf)
    ∷ []

-- ---- records

abbrev pub zero_side : Record → Bool
zero_side p = eqb p.width 0 || eqb p.length 0

abbrev pub large_side : Record → Bool
large_side p = ltb most_side p.width || ltb most_side p.length

abbrev pub bad_codes : Record → Bool
bad_codes p = ltb 2 p.pattern || ltb 1 p.flag || not (eqb p.spare 0)

abbrev pub unlimited : Record → Bool
unlimited p = eqb p.flag 0

-- a record's checks, given the ids of the records of its kind before it and the sum of their quantities; their order is in Sentences too (stock_order, cut_order),
-- and projects 38 and 42 of the corpus turn on it
abbrev pub RecordRule : Type 0
RecordRule = List ℕ → ℕ → Record → List Check

unfoldable pub stock_rule : RecordRule
stock_rule seen count p =
    (5, bad_codes p || (unlimited p && not (eqb p.quantity 0)))
    ∷ (6, zero_side p)
    ∷ (7, large_side p)
    ∷ (8, unlimited p)
    ∷ (9, any (eqb p.id) seen)
    ∷ (10, ltb most_instances (count + p.quantity))
    ∷ []

unfoldable pub cut_rule : RecordRule
cut_rule seen count p =
    (5, bad_codes p)
    ∷ (6, zero_side p)
    ∷ (7, large_side p)
    ∷ (11, eqb p.quantity 0)
    ∷ (9, any (eqb p.id) seen)
    ∷ (12, ltb most_instances (count + p.quantity))
    ∷ []

-- the checks of all records of a kind, in file order
unfoldable pub record_checks : RecordRule → List ℕ → ℕ → List Record → List Check
record_checks rule seen count [] = []
record_checks rule seen count (p ∷ ps) = rule seen count p ++ record_checks rule (p.id ∷ seen) (count + p.quantity) ps

-- ---- after all records (in this order: Sentences.whole_order, project 46 of the corpus)

abbrev pub total_quantity : List Record → ℕ
total_quantity ps = sum (map (λ p. p.quantity) ps)

unfoldable pub whole_checks : Project → List Check
whole_checks p =
    (13, not (is_empty p.cuts) && eqb (total_quantity p.stock) 0)
    ∷ (14, eqb p.layout 1 && not (is_empty p.cuts))
    ∷ []

-- ---- the table

unfoldable pub project_checks : Project → List Check
project_checks p =
    settings_checks p ++ (record_checks stock_rule [] 0 p.stock ++ (record_checks cut_rule [] 0 p.cuts ++ whole_checks p))

-- a file that is not well formed has no project to check
unfoldable pub file_checks : List ℕ → List Check
file_checks bytes = (2, not (well_formed bytes)) ∷ (if well_formed bytes then project_checks (project_of bytes) else [])

unfoldable pub file_refusal : List ℕ → Option ℕ
file_refusal bytes = first_that_applies (file_checks bytes)
