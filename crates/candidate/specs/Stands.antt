-- What a candidate of words stands for: the definition's candidate, each sheet rebuilt from its board and its insertions.
use Rattle.std.specs.Prelude.{ℕ, ◌+◌, ◌≤◌, ◌≡◌, length, take, drop}
use mathlib.Core.List.{List, ◌++◌, map, Memᴰ}
use Rattle.std.proofs.Math.Option
use Rattle.std.proofs.Math.Option.{some}
use Rattle.lists.specs.Base.{range}
use Rattle.lists.specs.Elements.{Perm, All}
use Rattle.model.specs.Sheet.{GuillotineSheet, Insertion, new_sheet, rebuild}
use Rattle.model.specs.Candidate.{Candidate}
use Rattle.model.specs.Expand.{ProblemInstance}
use Rattle.trust.specs.Proper.{UnderWay}
use Rattle.project.specs.Problem.{board_in, cut_in}
use Rattle.candidate.specs.declared.Candidate.{Candidate as Words}
use Rattle.candidate.specs.Entries.{board_of, cut_of, heuristic_of, on_board}

-- ---- sheets

unfoldable pub insertion_in : ProblemInstance → ℕ → Insertion
insertion_in inst word = record { cut = cut_in inst (cut_of word); heuristic = heuristic_of word }

-- the making of the sheet on a board
unfoldable pub making_in : ProblemInstance → List ℕ → ℕ → List Insertion
making_in inst words board = map (insertion_in inst) (on_board board words)

unfoldable pub bin_in : ProblemInstance → List ℕ → ℕ → GuillotineSheet
bin_in inst words board =
    Option.get_or (rebuild inst.kerf_width (board_in inst board) (making_in inst words board)) (new_sheet (board_in inst board))

-- ---- the candidate

abbrev pub sheet_boards : Words → List ℕ
sheet_boards k = take k.sheets k.boards

abbrev pub available_boards : ProblemInstance → Words → List ℕ
available_boards inst k = drop k.sheets (take (length inst.stock) k.boards)

abbrev pub placed_words : Words → List ℕ
placed_words k = k.insertions.items

abbrev pub unused_numbers : Words → List ℕ
unused_numbers k = k.unused.items

unfoldable pub candidate_in : ProblemInstance → Words → Candidate
candidate_in inst k =
    record {
      bins = map (bin_in inst (placed_words k)) (sheet_boards k);
      available_stock = map (board_in inst) (available_boards inst k);
      unused_cuts = map (cut_in inst) (unused_numbers k);
    }

-- a candidate under way: each board and each cut once, each insertion on a sheet's board, each sheet rebuilt.
-- `later` are the cuts still to be placed
pub record Stands (inst : ProblemInstance) (later : List ℕ) (k : Words) : Type 0 where
  pub room : length k.boards ≡ 64
  pub sheets : k.sheets ≤ length inst.stock
  pub boards : Perm (take (length inst.stock) k.boards) (range (length inst.stock))
  pub cuts : Perm (map cut_of (placed_words k) ++ (unused_numbers k ++ later)) (range (length inst.cuts))
  pub counts : length (placed_words k) + (length (unused_numbers k) + length later) ≡ length inst.cuts
  pub on : All (λ w. Memᴰ (board_of w) (sheet_boards k)) (placed_words k)
  pub rebuilt : All (λ b. rebuild inst.kerf_width (board_in inst b) (making_in inst (placed_words k) b) ≡ some (bin_in inst (placed_words k) b)) (sheet_boards k)
  pub proper : UnderWay inst (map (cut_in inst) later) (candidate_in inst k)
