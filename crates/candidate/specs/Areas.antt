-- The fitness of `model` by areas alone: of each sheet its placed area and its board's area.
use Rattle.std.specs.Prelude.{ℕ, ◌≤◌, List, [], ◌∷◌, map, ◌==◌, Float, if◌then◌else◌}
use Rattle.std.proofs.Math.Option.{Option, none, some}
use Rattle.std.specs.Float.{binary64}
use Rattle.std.specs.Float.Ieee.{add, mul, div}
use Rattle.lists.specs.Base.{sum}
use Rattle.lists.specs.Elements.{All}
use Rattle.model.specs.Types.{stock_area}
use Rattle.model.specs.Sheet.{GuillotineSheet, placed_area}
use Rattle.model.specs.Fitness.{weight, positive_zero}
use Rattle.candidate.specs.declared.fitness.SheetAreas.{SheetAreas}

-- the areas of a sheet
abbrev pub areas_of : GuillotineSheet → SheetAreas
areas_of sheet = record { placed = placed_area sheet; board = stock_area sheet.stock }

-- what stands for a sheet that there is not
abbrev pub no_sheet : SheetAreas
no_sheet = record { placed = 0; board = 0 }

-- fitness of a bin
unfoldable pub share_of : SheetAreas → Float
share_of sheet = if sheet.board == 0 then positive_zero else div binary64 (weight sheet.placed) (weight sheet.board)

unfoldable pub weighted_share : SheetAreas → Float
weighted_share sheet = mul binary64 (share_of sheet) (weight sheet.board)

-- a sum with the weighted shares of sheets added, in their order
unfoldable pub add_shares : Float → List SheetAreas → Float
add_shares so_far [] = so_far
add_shares so_far (s ∷ sheets) = add_shares (add binary64 so_far (weighted_share s)) sheets

-- the areas of all boards together
abbrev pub board_areas : List SheetAreas → ℕ
board_areas sheets = sum (map (λ s. s.board) sheets)

-- fitness of a candidate
unfoldable pub fitness_of : List SheetAreas → Option Float
fitness_of sheets =
    if board_areas sheets == 0 then none else some (div binary64 (add_shares positive_zero sheets) (weight (board_areas sheets)))

-- no sheet has more placed on it than its board's area
abbrev pub WithinBoards : List SheetAreas → Type 0
WithinBoards sheets = All (λ s. s.placed ≤ s.board) sheets
