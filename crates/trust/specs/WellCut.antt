-- A sheet's guide: each node fills its part of the board, and every cut leaves something on both sides of its kerf.
use Rattle.std.specs.Prelude.{ℕ, ◌+◌, ◌-◌, ◌^◌, ◌≤◌, ◌<◌, ◌≡◌}
use Rattle.std.proofs.Math.Option.{some}
use Rattle.lists.specs.Elements.{All}
use Rattle.model.specs.declared.Rect.{Rect}
use Rattle.model.specs.declared.Direction.{Direction}
use Rattle.model.specs.declared.InstanceKey.{InstanceKey}
use Rattle.model.specs.Types.{rect, stock_rect}
use Rattle.model.specs.Guide.{GuideCut, SliceNode, cut, leaf, free, cut_piece, span}
use Rattle.model.specs.Sheet.{GuillotineSheet}
use Rattle.model.specs.Refusal.{most_instances}
use Rattle.model.specs.Plan.{nodes_of}
use Rattle.trust.specs.Sound.{Within}

-- ---- parts

-- of a cut's two children: before its offset, after its kerf
abbrev pub first_part : Direction → ℕ → Rect → Rect
first_part Direction.Horizontal offset w = rect w.x w.y w.width offset
first_part Direction.Vertical offset w = rect w.x w.y offset w.length

abbrev pub second_part : Direction → ℕ → ℕ → Rect → Rect
second_part Direction.Horizontal offset kerf w = rect w.x (w.y + offset + kerf) w.width (w.length - offset - kerf)
second_part Direction.Vertical offset kerf w = rect (w.x + offset + kerf) w.y (w.width - offset - kerf) w.length

-- a rectangle in the corner of its part, short of it by no more than a kerf along either side
pub record InPart (kerf : ℕ) (part r : Rect) : Type 0 where
  pub x : r.x ≡ part.x
  pub y : r.y ≡ part.y
  pub width : r.width ≤ part.width
  pub width_short : part.width ≤ r.width + kerf
  pub length : r.length ≤ part.length
  pub length_short : part.length ≤ r.length + kerf

abbrev pub guide_cut_of : Rect → Direction → ℕ → ℕ → GuideCut
guide_cut_of work o offset kerf = record { work_rect = work; orientation = o; offset = offset; kerf_width = kerf }

-- a free leaf fills its part; a cut divides a side with something left before it and after its kerf
pub data WellCut (kerf : ℕ) : Rect → SliceNode → Type 0 where
  free_in : (part : Rect) → WellCut kerf part (leaf part free)
  piece_in : {part r : Rect} {k : InstanceKey} → InPart kerf part r → WellCut kerf part (leaf r (cut_piece k))
  cut_in : {part work : Rect} {o : Direction} {offset : ℕ} {a b : SliceNode} → InPart kerf part work → 0 < offset → offset + kerf < span o work
      → WellCut kerf (first_part o offset work) a → WellCut kerf (second_part o offset kerf work) b → WellCut kerf part (cut (guide_cut_of work o offset kerf) a b)

-- of the whole sheet, where it has a guide
abbrev pub PartsOk : ℕ → GuillotineSheet → Type 0
PartsOk kerf s = (tree : SliceNode) → s.slicing_tree ≡ some tree → WellCut kerf (stock_rect s.stock) tree

-- ---- ranges

pub record KeyRange (key : InstanceKey) : Type 0 where
  pub id : key.id < 2 ^ 64
  pub instance : key.instance < most_instances

pub record CutIn (kerf : ℕ) (board : Rect) (c : GuideCut) : Type 0 where
  pub work : Within board c.work_rect
  pub offset : c.offset + kerf < span c.orientation c.work_rect
  pub kerf_width : c.kerf_width ≡ kerf

-- a node lies in the board
abbrev pub NodeWithin : ℕ → Rect → SliceNode → Type 0
NodeWithin kerf board (cut c first second) = CutIn kerf board c
NodeWithin kerf board (leaf r free) = Within board r
NodeWithin kerf board (leaf r (cut_piece key)) = Within board r × KeyRange key

abbrev pub GuideIn : ℕ → GuillotineSheet → Type 0
GuideIn kerf s = All (NodeWithin kerf (stock_rect s.stock)) (nodes_of s.slicing_tree)
