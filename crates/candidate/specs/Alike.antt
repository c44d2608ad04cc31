-- Candidates of words that stand for one candidate, though their words differ.
use Rattle.std.specs.Prelude.{◌≡◌, length, take}
use Rattle.lists.specs.Elements.{All}
use Rattle.model.specs.Expand.{ProblemInstance}
use Rattle.candidate.specs.declared.Candidate.{Candidate as Words}
use Rattle.candidate.specs.Stands.{making_in, sheet_boards, placed_words, unused_numbers}

-- as many sheets, the same boards of the problem, the same unused cuts, and on each sheet the same insertions.
-- Free are the boards past the problem's, how insertions of different boards are mixed, and which of the codes of a heuristic an insertion has
pub record Alike (inst : ProblemInstance) (k l : Words) : Type 0 where
  pub sheets : k.sheets ≡ l.sheets
  pub boards : take (length inst.stock) k.boards ≡ take (length inst.stock) l.boards
  pub unused : unused_numbers k ≡ unused_numbers l
  pub makings : All (λ b. making_in inst (placed_words k) b ≡ making_in inst (placed_words l) b) (sheet_boards k)
