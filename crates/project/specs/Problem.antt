-- A problem that no check refuses, and its boards and cuts by their places.
use Rattle.std.specs.Prelude.{ℕ, false, get_or}
use Rattle.model.specs.declared.PatternDirection.{PatternDirection}
use Rattle.model.specs.declared.StockInstance.{StockInstance}
use Rattle.model.specs.declared.CutInstance.{CutInstance}
use Rattle.model.specs.Expand.{ProblemInstance}
use Rattle.trust.specs.Admitted.{Admitted, Ranged}

-- sizes and numbers in range, at most 64 boards and 64 cuts, each with a key of its own
pub record Sound (inst : ProblemInstance) : Type 0 where
  pub admitted : Admitted inst
  pub ranged : Ranged inst

-- a board and a cut by their places in the instance
abbrev pub no_stock : StockInstance
no_stock = record { stock_id = 0; instance = 0; width = 0; length = 0; pattern = PatternDirection.None }

abbrev pub no_cut : CutInstance
no_cut = record { cut_id = 0; instance = 0; width = 0; length = 0; pattern = PatternDirection.None; can_rotate = false }

unfoldable pub board_in : ProblemInstance → ℕ → StockInstance
board_in inst b = get_or inst.stock b no_stock

unfoldable pub cut_in : ProblemInstance → ℕ → CutInstance
cut_in inst k = get_or inst.cuts k no_cut
