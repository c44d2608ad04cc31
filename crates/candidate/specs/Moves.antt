-- What a placement does to the words of a candidate.
use Rattle.std.specs.Prelude.{ℕ, suc, ◌+◌, List, [], ◌∷◌, ◌++◌, map, leb, length, get_or, take, if◌then◌else◌}
use Rattle.lists.specs.Base.{is_some, range, remove_at, foldl}
use Rattle.model.specs.declared.BaselineGuillotineHeuristic.{BaselineGuillotineHeuristic}
use Rattle.model.specs.Sheet.{GuillotineSheet, Insertion, try_insert}
use Rattle.model.specs.Expand.{ProblemInstance}
use Rattle.words.specs.Inserted.{with_word_at}
use Rattle.candidate.specs.declared.Candidate.{Candidate as Words}
use Rattle.candidate.specs.Entries.{insertion_word}
use Rattle.candidate.specs.Stands.{bin_in, placed_words, unused_numbers}
use Rattle.project.specs.Problem.{cut_in}

-- Candidate::new: every board available, nothing placed
unfoldable pub new_words : Words
new_words = record { boards = range 64; sheets = 0; insertions = record { items = [] }; unused = record { items = [] } }

-- the board at an index moved to an earlier one
unfoldable pub moved_up : List ℕ → ℕ → ℕ → List ℕ
moved_up boards from to = with_word_at (remove_at from boards) to (get_or boards from 0)

-- one more insertion
unfoldable pub with_insertion : Words → ℕ → Words
with_insertion k word =
    record { boards = k.boards; sheets = k.sheets; insertions = record { items = k.insertions.items ++ (word ∷ []) }; unused = k.unused }

-- one more unused cut
unfoldable pub with_unused : Words → ℕ → Words
with_unused k cut =
    record { boards = k.boards; sheets = k.sheets; insertions = k.insertions; unused = record { items = k.unused.items ++ (cut ∷ []) } }

-- no unused cut
unfoldable pub without_unused : Words → Words
without_unused k = record { boards = k.boards; sheets = k.sheets; insertions = k.insertions; unused = record { items = [] } }

-- the available board at an index becomes the last sheet's
unfoldable pub with_sheet : Words → ℕ → Words
with_sheet k j =
    record { boards = moved_up k.boards j k.sheets; sheets = k.sheets + 1; insertions = k.insertions; unused = k.unused }

-- ---- place_cut_first_fit

-- the index of the first sheet that takes the insertion: past the last, if none does
unfoldable pub first_fit : ℕ → Insertion → List GuillotineSheet → ℕ
first_fit kerf i [] = 0
first_fit kerf i (sheet ∷ sheets) = if is_some (try_insert kerf sheet i) then 0 else suc (first_fit kerf i sheets)

-- the same among all boards of a candidate, a cut by its number
unfoldable pub first_fit_in : ProblemInstance → Words → ℕ → BaselineGuillotineHeuristic → ℕ
first_fit_in inst k cut h =
    first_fit inst.kerf_width (record { cut = cut_in inst cut; heuristic = h }) (map (bin_in inst (placed_words k)) (take (length inst.stock) k.boards))

-- the three ends, by the index of the board that took the cut: past the last board, the cut is unused
unfoldable pub take_place : ℕ → Words → ℕ → ℕ → BaselineGuillotineHeuristic → Words
take_place stock k j cut h =
    let placed = with_insertion k (insertion_word (get_or k.boards j 0) cut h) in
    if leb stock j then with_unused k cut else if leb k.sheets j then with_sheet placed j else placed

-- place_cut_first_fit of words: the cut goes to the first board that takes it
unfoldable pub with_cut : ProblemInstance → BaselineGuillotineHeuristic → Words → ℕ → Words
with_cut inst h k cut = take_place (length inst.stock) k (first_fit_in inst k cut h) cut h

-- ---- cuts one after the other

-- place_cuts
unfoldable pub with_cuts : ProblemInstance → BaselineGuillotineHeuristic → Words → List ℕ → Words
with_cuts inst h k order = foldl (with_cut inst h) k order

-- reinsert_unused_first_fit
unfoldable pub reinserted : ProblemInstance → BaselineGuillotineHeuristic → Words → Words
reinserted inst h k = with_cuts inst h (without_unused k) (unused_numbers k)
