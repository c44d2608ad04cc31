-- A piece and the words before a sheet's pieces, by what the writer has at hand.
use Rattle.std.specs.Prelude.{ℕ, List, [], ◌∷◌, ◌++◌}
use Rattle.model.specs.declared.BaselineGuillotineHeuristic.{BaselineGuillotineHeuristic}
use Rattle.model.specs.declared.StockInstance.{StockInstance}
use Rattle.model.specs.declared.CutInstance.{CutInstance}
use Rattle.model.specs.declared.FitResult.{FitResult}
use Rattle.model.specs.Sheet.{PlacedPiece}
use Rattle.model.specs.Plan.{words64}

-- a cut that a heuristic placed
abbrev pub piece : CutInstance → BaselineGuillotineHeuristic → FitResult → PlacedPiece
piece cut h fit = record { by = record { cut = cut; heuristic = h }; fit = fit }

-- the ten words before a sheet's pieces: board, use and saw, and the counts of pieces, waste and guide nodes
unfoldable pub head_words : StockInstance → (used saw pieces waste nodes : ℕ) → List ℕ
head_words stock used saw pieces waste nodes =
    words64 stock.stock_id ++ (stock.instance ∷ stock.width ∷ stock.length ∷ used ∷ saw ∷ pieces ∷ waste ∷ nodes ∷ [])
