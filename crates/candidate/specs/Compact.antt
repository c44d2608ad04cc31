-- Compaction in words: a sheet's insertions are taken out, and its board goes behind all others.
use Rattle.std.specs.Prelude.{ℕ, ◌-◌, ◌≡◌, not, eqb, ltb, length, get_or, take, drop, if◌then◌else◌}
use mathlib.Core.List.{List, [], ◌∷◌, ◌++◌, map, Memᴰ}
use Rattle.std.proofs.Math.Option.{none, some}
use Rattle.lists.specs.Base.{retain, remove_at}
use Rattle.lists.specs.Elements.{All}
use Rattle.model.specs.Candidate.{worst_bin, compact_worst_bin}
use Rattle.model.specs.Expand.{ProblemInstance}
use Rattle.candidate.specs.declared.Candidate.{Candidate as Words}
use Rattle.candidate.specs.Entries.{board_of, cut_of, on_board}
use Rattle.candidate.specs.Stands.{sheet_boards, placed_words, unused_numbers, candidate_in, Stands}

-- the insertions on other boards, in their order
unfoldable pub off_board : ℕ → List ℕ → List ℕ
off_board board words = retain (λ w. not (eqb (board_of w) board)) words

-- return_stock: of the first `count` boards, the one at an index goes behind the others
unfoldable pub put_back : List ℕ → ℕ → ℕ → List ℕ
put_back boards count index = remove_at index (take count boards) ++ (get_or boards index 0 ∷ drop count boards)

-- a sheet taken apart: the insertions on its board are out, their cuts are behind the unused ones
unfoldable pub apart : Words → ℕ → Words
apart c board =
    record {
      boards = c.boards;
      sheets = c.sheets;
      insertions = record { items = off_board board (placed_words c) };
      unused = record { items = unused_numbers c ++ map cut_of (on_board board (placed_words c)) };
    }

-- the sheet at an index taken apart, and its board put behind the problem's others
unfoldable pub without_sheet : ProblemInstance → Words → ℕ → Words
without_sheet inst c index =
    let r = apart c (get_or c.boards index 0) in
    record { boards = put_back c.boards (length inst.stock) index; sheets = c.sheets - 1; insertions = r.insertions; unused = r.unused }

-- compact_worst_bin_for_repair of words: the first least fit sheet is taken apart, if there are two or more
unfoldable pub compacted_words : ProblemInstance → Words → Words
compacted_words inst c =
    if ltb c.sheets 2 then c else (elim (worst_bin (candidate_in inst c).bins) [ none ↦ c | some worst ↦ without_sheet inst c worst.0 ])

-- a sheet that was there before, with the same insertions
abbrev pub SameSheet : Words → Words → ℕ → Type 0
SameSheet c r board = Memᴰ board (sheet_boards c) × (on_board board (placed_words r) ≡ on_board board (placed_words c))

-- compact_worst_bin_for_repair
pub record Compacted (inst : ProblemInstance) (c r : Words) : Type 0 where
  pub words : r ≡ compacted_words inst c
  pub is : candidate_in inst r ≡ compact_worst_bin inst.cuts (candidate_in inst c)
  pub stands : Stands inst [] r
  pub kept : All (SameSheet c r) (sheet_boards r)
