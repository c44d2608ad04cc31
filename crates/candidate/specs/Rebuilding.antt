-- The sheets of boards rebuilt, from insertions in the order in which they were made.
use Rattle.std.specs.Prelude.{ℕ, ◌≤◌, ◌<◌, ◌≡◌, Bool, true, length}
use mathlib.Core.List.{List, Memᴰ}
use Rattle.lists.specs.Base.{is_some, all}
use Rattle.lists.specs.Elements.{All}
use Rattle.model.specs.declared.Rect.{Rect}
use Rattle.model.specs.Sheet.{new_sheet, rebuild}
use Rattle.model.specs.Expand.{ProblemInstance}
use Rattle.project.specs.Problem.{board_in, cut_in}
use Rattle.candidate.specs.Entries.{board_of, cut_of, heuristic_of}
use Rattle.candidate.specs.Stands.{making_in}
use Rattle.candidate.specs.Bins.{Other, rects_on, ShowsBin}
use Rattle.candidate.specs.Fitting.{InsertsOnBoard}

-- ---- the bare boards

abbrev pub ShowsBare : ProblemInstance → List (List Rect) → ℕ → Type 0
ShowsBare inst free b = rects_on free b ≡ (new_sheet (board_in inst b)).free_rects

pub record OpensBoards (inst : ProblemInstance) (boards : List ℕ) (before after : List (List Rect)) : Type 0 where
  pub bare : All (ShowsBare inst after) boards
  pub others : (b : ℕ) → All (Other b) boards → rects_on after b ≡ rects_on before b

-- ---- the insertions

-- every making of the boards builds a sheet
unfoldable pub rebuilds_all : ProblemInstance → List ℕ → List ℕ → Bool
rebuilds_all inst words boards = all (λ b. is_some (rebuild inst.kerf_width (board_in inst b) (making_in inst words b))) boards

-- insertions of known cuts on known boards, which are bare
pub record Makable (inst : ProblemInstance) (free : List (List Rect)) (words : List ℕ) : Type 0 where
  pub few : length words ≤ 64
  pub boards : All (λ w. board_of w < length inst.stock) words
  pub cuts : All (λ w. cut_of w < length inst.cuts) words
  pub bare : All (λ w. ShowsBare inst free (board_of w)) words

-- one insertion, made again on its board
abbrev pub InsertsWord : ℕ → ProblemInstance → ℕ → (before after : List (List Rect)) → Bool → Type 0
InsertsWord kerf inst word before after r =
    InsertsOnBoard kerf (board_in inst (board_of word)).pattern (record { cut = cut_in inst (cut_of word); heuristic = heuristic_of word }) (board_of word) before after r

pub record InsertsAll (inst : ProblemInstance) (words : List ℕ) (before after : List (List Rect)) (r : Bool) : Type 0 where
  pub answer : (boards : List ℕ) → All (λ w. Memᴰ (board_of w) boards) words → r ≡ rebuilds_all inst words boards
  pub shown : r ≡ true → (b : ℕ) → b < length inst.stock → ShowsBare inst before b → ShowsBin inst words after b
  pub others : (b : ℕ) → All (λ w. Other b (board_of w)) words → rects_on after b ≡ rects_on before b

-- ---- both

-- insertions of known cuts on boards of the list
pub record Rebuildable (inst : ProblemInstance) (boards words : List ℕ) : Type 0 where
  pub few : length words ≤ 64
  pub known : All (λ b. b < length inst.stock) boards
  pub cuts : All (λ w. cut_of w < length inst.cuts) words
  pub on : All (λ w. Memᴰ (board_of w) boards) words

pub record Rebuilds (inst : ProblemInstance) (boards words : List ℕ) (before after : List (List Rect)) (r : Bool) : Type 0 where
  pub answer : r ≡ rebuilds_all inst words boards
  pub shown : r ≡ true → All (ShowsBin inst words after) boards
  pub others : (b : ℕ) → All (Other b) boards → rects_on after b ≡ rects_on before b
