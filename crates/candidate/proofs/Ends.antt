-- The three ends of a placement, by the index of the board that took the cut.
use Prim.Native.Nat.{ℕ, ◌+◌, ◌≤◌, ◌<◌}
use mathlib.Core.Path.{◌≡◌}
use mathlib.Core.List.{List}
use lib.ListN.{get_or}
use borrow.Author.Tests.{le-leb, lt-leb}
use Rattle.model.specs.declared.BaselineGuillotineHeuristic.{BaselineGuillotineHeuristic}
use Rattle.candidate.specs.declared.Candidate.{Candidate as Words}
use Rattle.candidate.specs.Entries.{insertion_word}
use Rattle.candidate.specs.Moves.{moved_up, with_insertion, with_unused, with_sheet, take_place}

module _ (stock : ℕ) (k : Words) (j cut : ℕ) (h : BaselineGuillotineHeuristic) where
  pub end_unused : stock ≤ j → take_place stock k j cut h ≡ with_unused k cut
  unfolding take_place
  end_unused past = rw (le-leb stock j past)

  pub end_sheet : j < stock → j < k.sheets → take_place stock k j cut h ≡ with_insertion k (insertion_word (get_or k.boards j 0) cut h)
  unfolding take_place
  end_sheet known here = rw (lt-leb stock j known, lt-leb k.sheets j here)

  pub end_new : j < stock → k.sheets ≤ j → take_place stock k j cut h ≡ with_sheet (with_insertion k (insertion_word (get_or k.boards j 0) cut h)) j
  unfolding take_place
  end_new known bare = rw (lt-leb stock j known, le-leb k.sheets j bare)

  -- a new sheet, as its words are put together
  pub sheet_made : (word : ℕ) (r : Words) (boards : List ℕ) → r ≡ with_insertion k word → boards ≡ moved_up k.boards j k.sheets
      → record { boards = boards; sheets = r.sheets + 1; insertions = r.insertions; unused = r.unused } ≡ with_sheet (with_insertion k word) j
  unfolding with_insertion with_sheet
  sheet_made word r boards e f = λ i. record { boards = f i; sheets = (e i).sheets + 1; insertions = (e i).insertions; unused = (e i).unused }
