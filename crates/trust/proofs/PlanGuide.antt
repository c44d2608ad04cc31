-- The guide of a winner's sheet, as it is read back, obeys the guide rules.
use Rattle.std.specs.Prelude.{if◌then◌else◌}
use Prim.Native.Nat.{ℕ, ◌+◌, ◌-◌, ◌*◌, ◌/◌, ◌<◌}
use native.Mathlib.Omega.{arith}
use mathlib.Core.Path.{◌≡◌, refl, sym, ap, ◌∙◌, subst}
use mathlib.Core.Bool.{Bool, true, false, not}
use mathlib.Core.List.{List, [], ◌∷◌, ◌++◌, map, map-map, append-nil, append_assoc}
use mathlib.Core.Option.{Option, none, some}
use lib.Dec.{T, eqb}
use borrow.Author.Tests.{eq-eqb, le-leb, lt-ltb}
use Rattle.lists.specs.Base.{sum, retain, is_empty}
use Rattle.lists.specs.Elements.{Perm}
use Rattle.model.specs.declared.Rect.{Rect}
use Rattle.model.specs.declared.Direction.{Direction}
use Rattle.model.specs.Types.{rect, area, stock_rect, stock_area, direction_code}
use Rattle.model.specs.Guide.{SliceNode, cut, leaf, free, cut_piece, span}
use Rattle.model.specs.Sheet.{GuillotineSheet, PlacedPiece, Insertion, new_sheet, placed_area}
use Rattle.model.specs.Plan.{preorder, nodes_of, along_cut, saw_length, use_of, saw_of}
use Rattle.lists.proofs.Sums.{map_append}
use Rattle.lists.proofs.Kept.{retain_append}
use Rattle.trust.specs.Words.{PieceIn, NodeIn, node_key}
use Rattle.trust.specs.InLayout.{is_piece, is_waste}
use Rattle.trust.specs.PieceRules.{piece_rects_in}
use Rattle.trust.specs.GuideRules.{merged_from, piece_leaves_in, waste_leaves_in, sits_in, part_before, part_after, divides, fills_parts, use_in, saw_in, HasGuide, GuideRules}
use Rattle.trust.specs.WellCut.{InPart, PartsOk, WellCut, cut_in, first_part, free_in, piece_in, second_part}
use Rattle.trust.proofs.Guide.{free_leaves, piece_leaves}
use Rattle.trust.proofs.Guided.{piece_entries, GuideState, voided, present, GuideLeaves}
use Rattle.trust.proofs.Truth.{of_true}
use Rattle.trust.proofs.RoundTrip.{piece_view, node_view, sheet_view, key_written}
use Rattle.trust.proofs.PlanPieces.{rects_read}

-- a tree's nodes as they are read
abbrev nodes_read : SliceNode → List NodeIn
nodes_read t = map node_view (preorder t)

-- ---- leaves

-- the chosen nodes of a list, read by f
module _ {B : Type 0} (p : NodeIn → Bool) (f : NodeIn → B) where
  chosen_append : (xs ys : List NodeIn) → map f (retain p (xs ++ ys)) ≡ map f (retain p xs) ++ map f (retain p ys)
  chosen_append xs ys = ap (map f) (retain_append p xs ys) ∙ map_append f (retain p xs) (retain p ys)

  chosen_children : (a b : SliceNode) → map f (retain p (map node_view (preorder a ++ preorder b))) ≡ map f (retain p (nodes_read a)) ++ map f (retain p (nodes_read b))
  chosen_children a b = ap (λ (ns : List NodeIn). map f (retain p ns)) (map_append node_view (preorder a) (preorder b)) ∙ chosen_append (nodes_read a) (nodes_read b)

piece_leaves_lem : (t : SliceNode) → piece_leaves_in (nodes_read t) ≡ piece_leaves t
unfolding piece_leaves_in piece_leaves preorder node_view retain node_key
piece_leaves_lem (cut c a b) = chosen_children is_piece (λ n. (n.rect, node_key n)) a b ∙ (λ i. piece_leaves_lem a i ++ piece_leaves_lem b i)
piece_leaves_lem (leaf r (cut_piece k)) = λ i. (r, key_written k i) ∷ []
piece_leaves_lem (leaf r free) = refl

waste_leaves_lem : (t : SliceNode) → waste_leaves_in (nodes_read t) ≡ free_leaves t
unfolding waste_leaves_in free_leaves preorder node_view retain
waste_leaves_lem (cut c a b) = chosen_children is_waste (λ n. n.rect) a b ∙ (λ i. waste_leaves_lem a i ++ waste_leaves_lem b i)
waste_leaves_lem (leaf r (cut_piece k)) = refl
waste_leaves_lem (leaf r free) = refl

-- ---- parts

sits : (kerf : ℕ) (part r : Rect) → InPart kerf part r → sits_in kerf part r ≡ true
unfolding sits_in
sits kerf part r h =
    rw (
      eq-eqb r.x part.x h.x,
      eq-eqb r.y part.y h.y,
      le-leb r.width part.width h.width,
      le-leb part.width (r.width + kerf) h.width_short,
      le-leb r.length part.length h.length,
      le-leb part.length (r.length + kerf) h.length_short,
    )

whole_part : (kerf : ℕ) (part : Rect) → InPart kerf part part
whole_part kerf part = record { x = refl; y = refl; width = omega arith; width_short = omega arith; length = omega arith; length_short = omega arith }

-- a guide cut as it is read
abbrev cut_read : Rect → Direction → ℕ → ℕ → NodeIn
cut_read work o offset kerf = record { kind = 0; first = direction_code o; second = offset; third = kerf; rect = work }

before_read : (work : Rect) (o : Direction) (offset kerf : ℕ) → part_before (cut_read work o offset kerf) ≡ first_part o offset work
unfolding part_before
before_read work Direction.Horizontal offset kerf = refl
before_read work Direction.Vertical offset kerf = refl

after_read : (work : Rect) (o : Direction) (offset kerf : ℕ) → part_after (cut_read work o offset kerf) ≡ second_part o offset kerf work
unfolding part_after
after_read work Direction.Horizontal offset kerf =
    let start : work.y + (offset + kerf) ≡ work.y + offset + kerf = omega arith in
    let side : work.length - (offset + kerf) ≡ work.length - offset - kerf = omega arith in
    λ i. rect work.x (start i) work.width (side i)
after_read work Direction.Vertical offset kerf =
    let start : work.x + (offset + kerf) ≡ work.x + offset + kerf = omega arith in
    let side : work.width - (offset + kerf) ≡ work.width - offset - kerf = omega arith in
    λ i. rect (start i) work.y (side i) work.length

divided : (work : Rect) (o : Direction) (offset kerf : ℕ) → 0 < offset → offset + kerf < span o work → divides (cut_read work o offset kerf) ≡ true
unfolding divides
divided work Direction.Horizontal offset kerf z r = rw (lt-ltb 0 offset z, lt-ltb (offset + kerf) work.length r)
divided work Direction.Vertical offset kerf z r = rw (lt-ltb 0 offset z, lt-ltb (offset + kerf) work.width r)

module _ (kerf : ℕ) where
  -- a tree that is well cut in a part fills it
  fills : {part : Rect} {t : SliceNode} → WellCut kerf part t → (parts : List Rect) (rest : List NodeIn)
      → fills_parts kerf (part ∷ parts) (nodes_read t ++ rest) ≡ fills_parts kerf parts rest
  unfolding fills_parts preorder node_view
  fills (free_in part) parts rest = rw (sits kerf part part (whole_part kerf part))
  fills (piece_in {part} {r} h) parts rest = rw (sits kerf part r h)
  fills (cut_in {part} {work} {o} {offset} {a} {b} h z r p q) parts rest =
      rw (sits kerf part work h, eq-eqb kerf kerf refl, divided work o offset kerf z r, before_read work o offset kerf, after_read work o offset kerf)
      (ap (fills_parts kerf (first_part o offset work ∷ second_part o offset kerf work ∷ parts))
      (ap (λ (ns : List NodeIn). ns ++ rest) (map_append node_view (preorder a) (preorder b)) ∙ append_assoc (nodes_read a) (nodes_read b) rest)
      ∙ fills p (second_part o offset kerf work ∷ parts) (nodes_read b ++ rest)
      ∙ fills q parts rest)

  tree_fills : {part : Rect} {t : SliceNode} → WellCut kerf part t → T (fills_parts kerf (part ∷ []) (nodes_read t))
  unfolding fills_parts
  tree_fills {part} {t} w = of_true (ap (fills_parts kerf (part ∷ [])) (sym (append-nil (nodes_read t))) ∙ fills w [] [])

-- ---- use and saw

saw_read : (n : SliceNode) → saw_length n ≡ saw_in (node_view n)
unfolding saw_length saw_in node_view
saw_read (cut c a b) = go c.orientation
  where
    go : (d : Direction) → along_cut d c.work_rect ≡ (if eqb (direction_code d) 0 then c.work_rect.width else c.work_rect.length)
    go Direction.Horizontal = refl
    go Direction.Vertical = refl
saw_read (leaf r (cut_piece k)) = refl
saw_read (leaf r free) = refl

saw_total : (ns : List SliceNode) → sum (map saw_length ns) ≡ sum (map saw_in (map node_view ns))
unfolding sum
saw_total [] = refl
saw_total (n ∷ ns) = λ i. saw_read n i + saw_total ns i

use_read : (s : GuillotineSheet) → use_of s ≡ use_in (sheet_view s)
unfolding use_of use_in placed_area sheet_view
use_read s = ap (λ (n : ℕ). n * 1000 / stock_area s.stock) (sym (map_area s))
  where
    map_area : (s : GuillotineSheet) → sum (map area (piece_rects_in (sheet_view s))) ≡ sum (map (λ (p : PlacedPiece). area p.fit.rect) s.placed_pieces)
    map_area s = ap (λ (rs : List Rect). sum (map area rs)) (rects_read s) ∙ ap sum (map-map area (λ (p : PlacedPiece). p.fit.rect) s.placed_pieces)

-- ---- the rules

no_empty : (t : SliceNode) → is_empty (nodes_read t) ≡ false
unfolding preorder
no_empty (cut c a b) = refl
no_empty (leaf r k) = refl

nodes_none : (s : GuillotineSheet) → s.slicing_tree ≡ none → (sheet_view s).nodes ≡ []
unfolding sheet_view nodes_of
nodes_none s e = ap (λ (o : Option SliceNode). map node_view (nodes_of o)) e

nodes_some : (s : GuillotineSheet) (t : SliceNode) → s.slicing_tree ≡ some t → (sheet_view s).nodes ≡ nodes_read t
unfolding sheet_view nodes_of
nodes_some s t e = ap (λ (o : Option SliceNode). map node_view (nodes_of o)) e

entries_read : (s : GuillotineSheet) → map (λ (p : PieceIn). (p.rect, p.key)) (sheet_view s).pieces ≡ piece_entries s.placed_pieces
unfolding sheet_view piece_view
entries_read s = map-map (λ (p : PieceIn). (p.rect, p.key)) piece_view s.placed_pieces

-- present and absent: what the leaves and the parts are owed only where there is a node
module _ (kerf : ℕ) (s : GuillotineSheet) (making : List Insertion) where
  abbrev bare : GuillotineSheet
  bare = new_sheet s.stock

  own_use_lem : (sheet_view s).«use» ≡ use_in (sheet_view s)
  own_use_lem = unfold sheet_view in use_read s

  own_saw_lem : (sheet_view s).saw ≡ sum (map saw_in (sheet_view s).nodes)
  own_saw_lem = unfold sheet_view saw_of in saw_total (nodes_of s.slicing_tree)

  without : s.slicing_tree ≡ none → merged_from kerf bare making ≡ true → GuideRules kerf bare making (sheet_view s)
  without e m =
      let empty : is_empty (sheet_view s).nodes ≡ true = ap is_empty (nodes_none s e) in
      let no : HasGuide (sheet_view s) → ⊥ = λ h. subst (λ (b : Bool). T (not b)) empty h in
      record {
        present = empty ∙ sym m;
        piece_leaves = λ h. absurd (no h);
        waste_leaves = λ h. absurd (no h);
        parts = λ h. absurd (no h);
        own_use = own_use_lem;
        own_saw = own_saw_lem;
      }

  with_guide : (t : SliceNode) → s.slicing_tree ≡ some t → GuideLeaves s t → WellCut kerf (stock_rect s.stock) t → merged_from kerf bare making ≡ false → GuideRules kerf bare making (sheet_view s)
  with_guide t e l w m =
      let nodes : (sheet_view s).nodes ≡ nodes_read t = nodes_some s t e in
      let pieces : Perm (piece_leaves t) (map (λ (p : PieceIn). (p.rect, p.key)) (sheet_view s).pieces) = rw (entries_read s) l.pieces in
      record {
        present = ap is_empty nodes ∙ no_empty t ∙ sym m;
        piece_leaves = λ h. rw (nodes, piece_leaves_lem t) pieces;
        waste_leaves = λ h. rw (nodes, waste_leaves_lem t) (unfold sheet_view in l.waste);
        parts = λ h. rw nodes (unfold sheet_view in tree_fills kerf w);
        own_use = own_use_lem;
        own_saw = own_saw_lem;
      }

pub guide_rules : (kerf : ℕ) (s : GuillotineSheet) (making : List Insertion) → PartsOk kerf s → GuideState s (merged_from kerf (new_sheet s.stock) making)
    → GuideRules kerf (new_sheet s.stock) making (sheet_view s)
guide_rules kerf s making ok g = go (merged_from kerf (new_sheet s.stock) making) refl g
  where
    go : (b : Bool) → merged_from kerf (new_sheet s.stock) making ≡ b → GuideState s b → GuideRules kerf (new_sheet s.stock) making (sheet_view s)
    go true m (voided e) = without kerf s making e m
    go false m (present t e l) = with_guide kerf s making t e l (ok t e) m
