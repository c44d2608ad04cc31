-- The numbers of a sheet of an admitted instance: what every insertion keeps, and the ranges that follow for its rectangles, areas and counts.
use Prim.Native.Nat.{ℕ, ◌+◌, ◌*◌, ◌≤◌}
use native.Mathlib.Nat.{le_refl, mul-le-mul}
use native.Mathlib.Omega.{arith}
use mathlib.Core.Path.{◌≡◌, refl, ap}
use mathlib.Core.List.{List, [], ◌∷◌, map}
use mathlib.Core.Option.{some}
use Rattle.lists.specs.Base.{sum}
use Rattle.lists.specs.Elements.{All}
use Rattle.model.specs.declared.Rect.{Rect}
use Rattle.model.specs.declared.StockInstance.{StockInstance}
use Rattle.model.specs.declared.CutInstance.{CutInstance}
use Rattle.model.specs.Types.{area, stock_rect, stock_area, cut_area}
use Rattle.model.specs.Refusal.{most_side}
use Rattle.model.specs.Sheet.{GuillotineSheet, PlacedPiece, Insertion, Place, new_sheet, insert_at, try_insert, placed_area}
use Rattle.model.specs.Plan.{preorder, nodes_of}
use Rattle.lists.proofs.Perm.{all_map, all_append, all_left, all_right, all_perm}
use Rattle.lists.proofs.Sums.{sum_append}
use Rattle.trust.specs.Limits.{most_edge, most_area}
use Rattle.trust.specs.Proper.{Bounded}
use Rattle.trust.specs.Sound.{Sound, Within, piece_rects, sheet_rects}
use Rattle.trust.specs.Admitted.{BoardRange, PanelRange}
use Rattle.trust.proofs.Placing.{Good, at_place}
use Rattle.trust.proofs.Sheet.{new_sound, insert_sound, lies_positive, chosen_first}
use Rattle.trust.proofs.Packing.{packed_area}
use Rattle.trust.proofs.Sizes.{insert_free, insert_nodes}
use Rattle.trust.proofs.GuideRange.{insert_guide_in}

-- ---- what every insertion keeps

pub new_bounded : (kerf : ℕ) (stock : StockInstance) → BoardRange stock → Bounded kerf (new_sheet stock)
unfolding new_sheet nodes_of preorder
new_bounded kerf stock r =
    record {
      layout = new_sound kerf stock r.wide r.long;
      board = r;
      panels = tt;
      free = le_refl 1;
      nodes = le_refl 1;
      guide = (record { left = omega arith; top = omega arith; right = omega arith; bottom = omega arith }, tt);
    }

-- the chosen free rectangle lies in the board
chosen_within : (kerf : ℕ) (s : GuillotineSheet) (i : Insertion) (p : Place) → Good s i p → Sound kerf s → Within (stock_rect s.stock) p.free_rect
chosen_within kerf s i p g h = (all_perm (Within (stock_rect s.stock)) (chosen_first kerf s i p g) h.within).0

insert_panels : (kerf : ℕ) (s : GuillotineSheet) (i : Insertion) (p : Place) → PanelRange i.cut → All (λ q. PanelRange q.by.cut) s.placed_pieces
    → All (λ q. PanelRange q.by.cut) (insert_at kerf s i p).placed_pieces
unfolding insert_at
insert_panels kerf s i p r h = all_append (λ q. PanelRange q.by.cut) s.placed_pieces (record { by = i; fit = p.fit } ∷ []) h (r, tt)

insert_board : (kerf : ℕ) (s : GuillotineSheet) (i : Insertion) (p : Place) → BoardRange s.stock → BoardRange (insert_at kerf s i p).stock
unfolding insert_at
insert_board kerf s i p r = r

pub insert_bounded : (kerf : ℕ) (s : GuillotineSheet) (i : Insertion) (p : Place) → PanelRange i.cut → Good s i p → Bounded kerf s → Bounded kerf (insert_at kerf s i p)
insert_bounded kerf s i p r g h =
    record {
      layout = insert_sound kerf s i p r.wide r.long g h.layout;
      board = insert_board kerf s i p h.board;
      panels = insert_panels kerf s i p r h.panels;
      free = insert_free kerf s i p g h.free;
      nodes = insert_nodes kerf s i p h.nodes;
      guide = insert_guide_in kerf s i p r (lies_positive i.cut p r.wide r.long g.fits.lies) (chosen_within kerf s i p g h.layout) g h.guide;
    }

pub try_insert_bounded : (kerf : ℕ) (s : GuillotineSheet) (i : Insertion) (t : GuillotineSheet) → PanelRange i.cut → try_insert kerf s i ≡ some t → Bounded kerf s → Bounded kerf t
try_insert_bounded kerf s i t r e h = at_place (Bounded kerf) kerf s i t (λ p g. insert_bounded kerf s i p r g h) e

-- ---- the ranges of a rectangle on a board

pub record RectRange (kerf : ℕ) (r : Rect) : Type 0 where
  pub x : r.x ≤ most_side
  pub y : r.y ≤ most_side
  pub width : r.width ≤ most_side
  pub length : r.length ≤ most_side
  pub right : r.x + r.width ≤ most_side
  pub bottom : r.y + r.length ≤ most_side
  pub right_kerf : r.x + r.width + kerf ≤ most_edge
  pub bottom_kerf : r.y + r.length + kerf ≤ most_edge
  pub area : r.width * r.length ≤ most_area

pub area_most : (w l : ℕ) → w ≤ most_side → l ≤ most_side → w * l ≤ most_area
area_most w l h k = mul-le-mul h k

pub board_area_most : (s : StockInstance) → BoardRange s → stock_area s ≤ most_area
board_area_most s r = area_most s.width s.length r.width r.length

pub panel_area_most : (c : CutInstance) → PanelRange c → cut_area c ≤ most_area
panel_area_most c r = area_most c.width c.length r.width r.length

pub rect_range : (kerf : ℕ) (s : StockInstance) (r : Rect) → kerf ≤ most_side → BoardRange s → Within (stock_rect s) r → RectRange kerf r
rect_range kerf s r k b w =
    record {
      x = omega arith;
      y = omega arith;
      width = omega arith;
      length = omega arith;
      right = omega arith;
      bottom = omega arith;
      right_kerf = omega arith;
      bottom_kerf = omega arith;
      area = area_most r.width r.length (omega arith) (omega arith);
    }

pub within_range : (kerf : ℕ) (s : StockInstance) (rs : List Rect) → kerf ≤ most_side → BoardRange s → All (Within (stock_rect s)) rs → All (RectRange kerf) rs
within_range kerf s rs k b h = all_map (Within (stock_rect s)) (RectRange kerf) (λ r w. rect_range kerf s r k b w) rs h

-- ---- of a sheet: its pieces and its free rectangles

module _ (kerf : ℕ) (s : GuillotineSheet) (k : kerf ≤ most_side) (h : Bounded kerf s) where
  rects_range : All (RectRange kerf) (sheet_rects s)
  rects_range = within_range kerf s.stock (sheet_rects s) k h.board h.layout.within

  pub pieces_range : All (RectRange kerf) (piece_rects s.placed_pieces)
  pieces_range = all_left (RectRange kerf) (piece_rects s.placed_pieces) s.free_rects rects_range

  pub free_range : All (RectRange kerf) s.free_rects
  free_range = all_right (RectRange kerf) (piece_rects s.placed_pieces) s.free_rects rects_range

-- a sheet has no more placed than its board's area
pub placed_most : (kerf : ℕ) (s : GuillotineSheet) → Sound kerf s → placed_area s ≤ stock_area s.stock
unfolding placed_area
placed_most kerf s h =
    omega (
      arith,
      packed_area kerf (stock_rect s.stock) (sheet_rects s) refl refl h.within h.apart,
      sum_append area (piece_rects s.placed_pieces) s.free_rects,
      ap sum (areas_of s.placed_pieces),
    )
  where
    areas_of : (ps : List PlacedPiece) → map (λ p. area p.fit.rect) ps ≡ map area (piece_rects ps)
    areas_of [] = refl
    areas_of (p ∷ ps) = ap {B = List ℕ} (λ r. area p.fit.rect ∷ r) (areas_of ps)
