-- The free rectangles of all boards, by the boards' numbers.
use Rattle.std.specs.Prelude.{ℕ, ◌≡◌, List, [], get_or, set}
use Rattle.model.specs.declared.Rect.{Rect}
use Rattle.model.specs.Sheet.{GuillotineSheet}
use Rattle.model.specs.Expand.{ProblemInstance}
use Rattle.lists.specs.Elements.{All}
use Rattle.candidate.specs.declared.Candidate.{Candidate as Words}
use Rattle.candidate.specs.Stands.{bin_in, sheet_boards, placed_words}

-- another board, or another cut
abbrev pub Other : ℕ → ℕ → Type 0
Other a b = a ≡ b → ⊥

-- a board's
abbrev pub rects_on : List (List Rect) → ℕ → List Rect
rects_on free board = get_or free board []

-- with a sheet's free rectangles at its board
abbrev pub with_bin : List (List Rect) → ℕ → GuillotineSheet → List (List Rect)
with_bin free board sheet = set free board sheet.free_rects

-- the free rectangles of a board are those of the board's sheet
abbrev pub ShowsBin : ProblemInstance → List ℕ → List (List Rect) → ℕ → Type 0
ShowsBin inst words free b = rects_on free b ≡ (bin_in inst words b).free_rects

-- every sheet of the candidate is shown. The other boards are the free part: theirs may be any
pub record Shown (inst : ProblemInstance) (free : List (List Rect)) (k : Words) : Type 0 where
  pub sheets : All (ShowsBin inst (placed_words k) free) (sheet_boards k)
