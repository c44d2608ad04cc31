-- What the file's checks leave of an instance: its ranges (4, 6, 7, 10, 12, 13) and its keys (9).
use Rattle.std.specs.Prelude.{ℕ, ◌^◌, ◌≤◌, ◌<◌, not, List, length, T}
use Rattle.lists.specs.Elements.{All, Pairs}
use Rattle.model.specs.declared.StockInstance.{StockInstance}
use Rattle.model.specs.declared.CutInstance.{CutInstance}
use Rattle.model.specs.Types.{stock_key, cut_key, same_key}
use Rattle.model.specs.Refusal.{most_side, most_instances}
use Rattle.model.specs.Expand.{ProblemInstance}

-- ---- numbers

-- of a board or a panel: its id, its instance, its width and its length
pub record InRange (i n w l : ℕ) : Type 0 where
  pub id : i < 2 ^ 64
  pub instance : n < most_instances
  pub wide : 0 < w
  pub width : w ≤ most_side
  pub long : 0 < l
  pub length : l ≤ most_side

abbrev pub BoardRange : StockInstance → Type 0
BoardRange s = InRange s.stock_id s.instance s.width s.length

abbrev pub PanelRange : CutInstance → Type 0
PanelRange c = InRange c.cut_id c.instance c.width c.length

pub record Ranged (inst : ProblemInstance) : Type 0 where
  pub kerf : inst.kerf_width ≤ most_side
  pub boards : All BoardRange inst.stock
  pub panels : All PanelRange inst.cuts
  pub few_boards : length inst.stock ≤ most_instances
  pub few_panels : length inst.cuts ≤ most_instances
  pub some_board : 0 < length inst.cuts → 0 < length inst.stock

-- ---- keys

abbrev pub DifferBoards : StockInstance → StockInstance → Type 0
DifferBoards a b = T (not (same_key (stock_key a) (stock_key b)))

abbrev pub Differ : CutInstance → CutInstance → Type 0
Differ a b = T (not (same_key (cut_key a) (cut_key b)))

abbrev pub Distinct : List CutInstance → Type 0
Distinct cuts = Pairs Differ cuts

pub record Admitted (inst : ProblemInstance) : Type 0 where
  pub boards : All (λ s. (0 < s.width) × (0 < s.length)) inst.stock
  pub panels : All (λ c. (0 < c.width) × (0 < c.length)) inst.cuts
  pub own_boards : Pairs DifferBoards inst.stock
  pub own_panels : Distinct inst.cuts
