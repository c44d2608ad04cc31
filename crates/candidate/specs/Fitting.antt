-- An insertion on a board, and the first board that takes one.
use Rattle.std.specs.Prelude.{ℕ, ◌≤◌, ◌<◌, ◌≡◌, Bool, List, map, length, get_or, take, drop, if◌then◌else◌}
use Rattle.std.proofs.Math.Option.{none, some}
use Rattle.lists.specs.Base.{is_some}
use Rattle.lists.specs.Elements.{All, Pairs}
use Rattle.model.specs.declared.PatternDirection.{PatternDirection}
use Rattle.model.specs.declared.StockInstance.{StockInstance}
use Rattle.model.specs.declared.Rect.{Rect}
use Rattle.model.specs.Sheet.{GuillotineSheet, Insertion, new_sheet, try_insert}
use Rattle.model.specs.Expand.{ProblemInstance}
use Rattle.project.specs.Problem.{board_in}
use Rattle.sheet.specs.Places.{Shows}
use Rattle.sheet.specs.Insertions.{Insertable}
use Rattle.candidate.specs.Moves.{first_fit}
use Rattle.candidate.specs.Bins.{Other, rects_on, with_bin}

-- ---- one board

-- what an insertion on a board needs: the board's free rectangles, ready for it
pub record Fillable (kerf : ℕ) (free : List (List Rect)) (board : ℕ) : Type 0 where
  pub known : board < 64
  pub rects : Insertable kerf (rects_on free board)

-- the insertion into one sheet that has them
pub record InsertsOn (kerf : ℕ) (s : GuillotineSheet) (i : Insertion) (board : ℕ) (before after : List (List Rect)) (r : Bool) : Type 0 where
  pub answer : r ≡ is_some (try_insert kerf s i)
  pub rects : after ≡ (elim (try_insert kerf s i) [ none ↦ before | some t ↦ with_bin before board t ])

-- the same into any sheet that has them
abbrev pub InsertsOnBoard : ℕ → PatternDirection → Insertion → ℕ → (before after : List (List Rect)) → Bool → Type 0
InsertsOnBoard kerf pattern i board before after r =
    (s : GuillotineSheet) → Shows (rects_on before board) pattern s → InsertsOn kerf s i board before after r

-- with the board made bare first, where it is no sheet's yet
abbrev pub opened_if : Bool → List (List Rect) → ℕ → StockInstance → List (List Rect)
opened_if bare free board stock = if bare then with_bin free board (new_sheet stock) else free

-- ---- the first of the boards

-- the boards of an instance in some order, of which the first are sheets'
pub record Boards (inst : ProblemInstance) (boards : List ℕ) (sheets : ℕ) : Type 0 where
  pub listed : length inst.stock ≤ length boards
  pub opened : sheets ≤ length inst.stock
  pub known : All (λ b. b < length inst.stock) (take (length inst.stock) boards)
  pub once : Pairs Other (take (length inst.stock) boards)

-- the sheet of each board: those of the first boards are shown, the others are bare
pub record Bins (inst : ProblemInstance) (boards : List ℕ) (sheets : ℕ) (free : List (List Rect)) (bin : ℕ → GuillotineSheet) : Type 0 where
  pub shown : All (λ b. Shows (rects_on free b) (board_in inst b).pattern (bin b)) (take sheets boards)
  pub bare : All (λ b. bin b ≡ new_sheet (board_in inst b)) (drop sheets (take (length inst.stock) boards))

pub record FirstFits (kerf : ℕ) (i : Insertion) (bin : ℕ → GuillotineSheet) (boards : List ℕ) (count : ℕ) (after : List (List Rect)) (r : ℕ) : Type 0 where
  pub index : r ≡ first_fit kerf i (map bin (take count boards))
  pub taken : (t : GuillotineSheet) → r < count → try_insert kerf (bin (get_or boards r 0)) i ≡ some t → rects_on after (get_or boards r 0) ≡ t.free_rects

pub record TriesBoards (inst : ProblemInstance) (i : Insertion) (boards : List ℕ) (sheets : ℕ) (before after : List (List Rect)) (r : ℕ) : Type 0 where
  pub first : (bin : ℕ → GuillotineSheet) → Bins inst boards sheets before bin → FirstFits inst.kerf_width i bin boards (length inst.stock) after r
  -- the sheets' stay, but for the one that took it
  pub others : All (λ b. (r < length inst.stock → Other b (get_or boards r 0)) → rects_on after b ≡ rects_on before b) (take sheets boards)
