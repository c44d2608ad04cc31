-- What every sheet and every candidate of the search over an admitted instance has.
use Rattle.std.specs.Prelude.{ℕ, ◌+◌, ◌*◌, ◌≤◌, ◌<◌, List, [], ◌++◌, map, length}
use Rattle.lists.specs.Base.{concat_map}
use Rattle.lists.specs.Elements.{Perm, All}
use Rattle.model.specs.declared.StockInstance.{StockInstance}
use Rattle.model.specs.declared.CutInstance.{CutInstance}
use Rattle.model.specs.Sheet.{GuillotineSheet, making_of}
use Rattle.model.specs.Candidate.{Candidate}
use Rattle.model.specs.Expand.{ProblemInstance}
use Rattle.model.specs.Plan.{nodes_of}
use Rattle.trust.specs.Admitted.{BoardRange, PanelRange}
use Rattle.trust.specs.Sound.{Sound, Legal, Rebuilt}
use Rattle.trust.specs.WellCut.{PartsOk, GuideIn}

-- ---- a sheet

pub record SheetOk (kerf : ℕ) (s : GuillotineSheet) : Type 0 where
  pub layout : Sound kerf s
  pub rebuilt : Rebuilt kerf s
  pub legal : All (Legal s.stock.pattern) s.placed_pieces
  pub parts : PartsOk kerf s

abbrev pub FreeCount : GuillotineSheet → Type 0
FreeCount s = length s.free_rects ≤ length s.placed_pieces + 1

abbrev pub NodeCount : GuillotineSheet → Type 0
NodeCount s = length (nodes_of s.slicing_tree) ≤ 4 * length s.placed_pieces + 1

-- its numbers
pub record Bounded (kerf : ℕ) (s : GuillotineSheet) : Type 0 where
  pub layout : Sound kerf s
  pub board : BoardRange s.stock
  pub panels : All (λ p. PanelRange p.by.cut) s.placed_pieces
  pub free : FreeCount s
  pub nodes : NodeCount s
  pub guide : GuideIn kerf s

pub record SheetProper (kerf : ℕ) (s : GuillotineSheet) : Type 0 where
  pub ok : SheetOk kerf s
  pub bounded : Bounded kerf s

-- ---- a candidate

-- the cuts on a sheet, and on all of them
unfoldable pub cuts_of : GuillotineSheet → List CutInstance
cuts_of s = map (λ i. i.cut) (making_of s)

abbrev pub placed_cuts : List GuillotineSheet → List CutInstance
placed_cuts bins = concat_map cuts_of bins

abbrev pub boards_of : List GuillotineSheet → List StockInstance
boards_of bins = map (λ b. b.stock) bins

-- each board and each panel once, with panels still to be placed; every sheet keeps P
pub record Kept (P : GuillotineSheet → Type 0) (stock : List StockInstance) (cuts later : List CutInstance) (c : Candidate) : Type 0 where
  pub boards : Perm (boards_of c.bins ++ c.available_stock) stock
  pub panels : Perm (placed_cuts c.bins ++ (c.unused_cuts ++ later)) cuts
  pub sheets : All P c.bins

-- at least one piece on each sheet
abbrev pub Filled : GuillotineSheet → Type 0
Filled s = 0 < length s.placed_pieces

abbrev pub AllFilled : Candidate → Type 0
AllFilled c = All Filled c.bins

-- of a candidate with panels still to be placed
pub record UnderWay (inst : ProblemInstance) (later : List CutInstance) (c : Candidate) : Type 0 where
  pub kept : Kept (SheetProper inst.kerf_width) inst.stock inst.cuts later c
  pub filled : AllFilled c

-- and with none
abbrev pub CandidateProper : ProblemInstance → Candidate → Type 0
CandidateProper inst c = UnderWay inst [] c
