-- A child, as the definition's optional child.
use Rattle.std.specs.Prelude.{◌≡◌, [], length, get_or, Option as Child, None, Some}
use Rattle.std.proofs.Math.Option.{Option, none, some}
use Rattle.lists.specs.Base.{◌>>=◌}
use Rattle.lists.specs.Language.{option_of}
use Rattle.model.specs.declared.BaselineGuillotineHeuristic.{BaselineGuillotineHeuristic}
use Rattle.model.specs.Sheet.{rebuild}
use Rattle.model.specs.Candidate.{Candidate}
use Rattle.model.specs.Expand.{ProblemInstance}
use Rattle.model.specs.Search.{child_of}
use Rattle.project.specs.Problem.{board_in}
use Rattle.candidate.specs.declared.Candidate.{Candidate as Words}
use Rattle.candidate.specs.Stands.{making_in, placed_words, candidate_in, Stands}
use Rattle.candidate.specs.OnSheets.{best_donor}
use Rattle.candidate.specs.Donated.{donated, child_words}

-- crossover_child_from_donor_bin of words: the child of the donor's first fittest sheet, if its cuts, placed anew, find their places on the bare board
unfoldable pub child_in : ProblemInstance → BaselineGuillotineHeuristic → (left right : Words) → Option Words
child_in inst h left right =
    best_donor (candidate_in inst right).bins >>= λ donor.
    let board = get_or right.boards donor.0 0 in
    rebuild inst.kerf_width (board_in inst board) (making_in inst (donated (placed_words right) board h) board) >>= λ sheet.
    some (child_words (length inst.cuts) left right board h)

pub record IsTheChild (inst : ProblemInstance) (o : Option Candidate) (c : Words) : Type 0 where
  pub is : o ≡ some (candidate_in inst c)
  pub stands : Stands inst [] c

-- crossover_child_from_donor_bin
abbrev pub IsChild : ProblemInstance → Option Candidate → Child Words → Type 0
IsChild inst o None = o ≡ none
IsChild inst o (Some c) = IsTheChild inst o c

-- of two parents
pub record IsChildOf (inst : ProblemInstance) (h : BaselineGuillotineHeuristic) (left right : Words) (r : Child Words) : Type 0 where
  pub words : option_of r ≡ child_in inst h left right
  pub is : IsChild inst (child_of inst h (candidate_in inst left) (candidate_in inst right)) r
