-- The words of a crossover child: the donor's sheet with its cuts placed anew, the other cuts unused.
use Rattle.std.specs.Prelude.{ℕ, zero, suc, not, List, [], ◌∷◌, ◌++◌, map, eqb, if◌then◌else◌}
use Rattle.lists.specs.Base.{retain, range}
use Rattle.model.specs.declared.BaselineGuillotineHeuristic.{BaselineGuillotineHeuristic}
use Rattle.candidate.specs.declared.Candidate.{Candidate as Words}
use Rattle.candidate.specs.Entries.{cut_of, insertion_word, on_board}
use Rattle.candidate.specs.Moves.{new_words, moved_up}
use Rattle.candidate.specs.Stands.{placed_words, unused_numbers}
use Rattle.candidate.specs.Keys.{elem}

-- ---- pushes in a row

unfoldable pub with_insertions : Words → List ℕ → Words
with_insertions k words =
    record { boards = k.boards; sheets = k.sheets; insertions = record { items = placed_words k ++ words }; unused = k.unused }

unfoldable pub with_unused_cuts : Words → List ℕ → Words
with_unused_cuts k cuts =
    record { boards = k.boards; sheets = k.sheets; insertions = k.insertions; unused = record { items = unused_numbers k ++ cuts } }

-- ---- the donor's cuts

-- an insertion with its cut placed anew
abbrev pub anew : ℕ → BaselineGuillotineHeuristic → ℕ → ℕ
anew board h word = insertion_word board (cut_of word) h

-- the cuts on a donor's board, in their order of placing
unfoldable pub donated : List ℕ → ℕ → BaselineGuillotineHeuristic → List ℕ
donated words board h = map (anew board h) (on_board board words)

-- the numbers below n that are not among some, in their order
unfoldable pub others_than : List ℕ → ℕ → List ℕ
others_than ks n = retain (λ k. not (elem k ks)) (range n)

-- ---- the left parent's boards

-- Iterator::position: past the last, if there is none
unfoldable pub place_among : ℕ → List ℕ → ℕ
place_among x [] = zero
place_among x (y ∷ ys) = if eqb y x then zero else suc (place_among x ys)

-- ---- the child

-- one sheet on a board, with the insertions that were made, before the other boards of the first parent
unfoldable pub sheet_of : Words → Words → ℕ → Words
sheet_of left made board =
    record { boards = moved_up left.boards (place_among board left.boards) 0; sheets = 1; insertions = made.insertions; unused = made.unused }

-- crossover_child_from_donor_bin, of so many cuts
unfoldable pub child_words : ℕ → Words → Words → ℕ → BaselineGuillotineHeuristic → Words
child_words cuts left right board h =
    let sheet = sheet_of left (with_insertions new_words (donated (placed_words right) board h)) board in
    with_unused_cuts sheet (others_than (map cut_of (placed_words sheet)) cuts)
