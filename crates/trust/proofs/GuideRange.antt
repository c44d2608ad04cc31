-- Every node of a guide lies in the board: a cut's work rectangle with an offset and a kerf inside it, and a leaf's rectangle with the key of a panel.
use Rattle.std.specs.Prelude.{if◌then◌else◌}
use Prim.Native.Nat.{ℕ, ◌+◌, ◌≤◌, ◌<◌}
use native.Mathlib.Omega.{arith}
use mathlib.Core.Path.{◌≡◌, refl, subst}
use mathlib.Core.Bool.{Bool, true, false, ◌||◌}
use mathlib.Core.List.{List, [], ◌∷◌}
use mathlib.Core.Option.{Option, none, some, some-injective, none-ne-some}
use lib.Dec.{T, eqb, leb}
use borrow.Author.Tests.{leb-false}
use Rattle.lists.specs.Base.{◌>>=◌}
use Rattle.lists.specs.Elements.{All}
use Rattle.model.specs.declared.Rect.{Rect}
use Rattle.model.specs.declared.Direction.{Direction}
use Rattle.model.specs.declared.CutInstance.{CutInstance}
use Rattle.model.specs.Types.{cut_key, stock_rect}
use Rattle.model.specs.Guide.{GuideCut, SliceNode, cut, leaf, free, cut_piece, span, guide_cut, cut_off, insert_subtree}
use Rattle.model.specs.Sheet.{GuillotineSheet, Insertion, Place, insert_at}
use Rattle.model.specs.Plan.{preorder, nodes_of}
use Rattle.trust.specs.WellCut.{CutIn, GuideIn, NodeWithin, first_part, guide_cut_of, second_part}
use Rattle.trust.specs.Sound.{Positive, Within}
use Rattle.trust.specs.Admitted.{PanelRange}
use Rattle.lists.proofs.Perm.{all_append, all_left, all_right}
use Rattle.lists.proofs.Every.{all_if}
use Rattle.trust.proofs.Truth.{or_false_split}
use Rattle.trust.proofs.Geometry.{within_trans}
use Rattle.trust.proofs.RectLayout.{Corner}
use Rattle.trust.proofs.Placing.{Good}
use Rattle.trust.proofs.Guide.{crossing, over, before, behind, cut_twice, room, crossing_room, Grafted, at_leaf, in_first, in_second, regrown}

-- ---- a node

abbrev pub TreeIn : ℕ → Rect → SliceNode → Type 0
TreeIn kerf board tree = All (NodeWithin kerf board) (preorder tree)

-- what Cut::new makes
guide_cut_in : (board work : Rect) (o : Direction) (offset kerf : ℕ) (c : GuideCut) → Within board work → guide_cut work o offset kerf ≡ some c → CutIn kerf board c
unfolding guide_cut
guide_cut_in board work o offset kerf c w e =
    go (eqb work.width 0 || eqb work.length 0 || eqb offset 0 || leb (span o work) (offset + kerf)) refl e
  where
    made : leb (span o work) (offset + kerf) ≡ false → CutIn kerf board (guide_cut_of work o offset kerf)
    made l = record { work = w; offset = leb-false (span o work) (offset + kerf) l; kerf_width = refl }

    go : (b : Bool) → (eqb work.width 0 || eqb work.length 0 || eqb offset 0 || leb (span o work) (offset + kerf)) ≡ b
        → (if b then none else some (guide_cut_of work o offset kerf)) ≡ some c → CutIn kerf board c
    go true f k = absurd (none-ne-some c k)
    go false f k =
        subst (CutIn kerf board) (some-injective (guide_cut_of work o offset kerf) c k)
        (made (or_false_split (eqb work.width 0 || eqb work.length 0 || eqb offset 0) (leb (span o work) (offset + kerf)) f).1)

-- ---- trees

module _ (kerf : ℕ) (board : Rect) where
  graft_in : {target : Rect} {sub tree t : SliceNode} → Grafted target sub tree t → TreeIn kerf board tree → TreeIn kerf board sub → TreeIn kerf board t
  unfolding preorder
  graft_in at_leaf h s = s
  graft_in (in_first {c} {a} {b} {n} g) h s = (
    h.0,
    all_append (NodeWithin kerf board) (preorder n) (preorder b) (graft_in g (all_left (NodeWithin kerf board) (preorder a) (preorder b) h.1) s)
        (all_right (NodeWithin kerf board) (preorder a) (preorder b) h.1),
  )
  graft_in (in_second {c} {a} {b} {n} g) h s = (
    h.0,
    all_append (NodeWithin kerf board) (preorder a) (preorder n) (all_left (NodeWithin kerf board) (preorder a) (preorder b) h.1)
        (graft_in g (all_right (NodeWithin kerf board) (preorder a) (preorder b) h.1) s),
  )

  cut_off_in : (work : Rect) (o : Direction) (offset : ℕ) (rs : List Rect) (node t : SliceNode) → Within board work → All (Within board) rs → TreeIn kerf board node
      → cut_off work o offset kerf rs node ≡ some t → TreeIn kerf board t
  unfolding cut_off preorder
  cut_off_in work o offset [] node t w h n e = subst (TreeIn kerf board) (some-injective node t e) n
  cut_off_in work o offset (r ∷ rs) node t w h n e = go (guide_cut work o offset kerf) refl e
    where
      go : (q : Option GuideCut) → guide_cut work o offset kerf ≡ q → (q >>= λ c. some (cut c node (leaf r free))) ≡ some t → TreeIn kerf board t
      go none f k = absurd (none-ne-some t k)
      go (some c) f k =
          subst (TreeIn kerf board) (some-injective _ t k)
          (guide_cut_in board work o offset kerf c w f, all_append (NodeWithin kerf board) (preorder node) (leaf r free ∷ []) n (h.0, tt))

  first_within : (o : Direction) (offset : ℕ) (w : Rect) → offset ≤ span o w → Within w (first_part o offset w)
  first_within Direction.Horizontal offset w h = record { left = omega arith; top = omega arith; right = omega arith; bottom = omega arith }
  first_within Direction.Vertical offset w h = record { left = omega arith; top = omega arith; right = omega arith; bottom = omega arith }

  second_within : (o : Direction) (offset : ℕ) (w : Rect) → offset + kerf < span o w → Within w (second_part o offset kerf w)
  second_within Direction.Horizontal offset w h = record { left = omega arith; top = omega arith; right = omega arith; bottom = omega arith }
  second_within Direction.Vertical offset w h = record { left = omega arith; top = omega arith; right = omega arith; bottom = omega arith }

  module _ (f p : Rect) (c : CutInstance) (at : Corner f p) (s : Positive p) (inside : Within board f) (key : PanelRange c) where
    piece_in_lem : TreeIn kerf board (leaf p (cut_piece (cut_key c)))
    unfolding preorder
    piece_in_lem = ((record { left = omega arith; top = omega arith; right = omega arith; bottom = omega arith }, record { id = key.id; instance = key.instance }), tt)

    behind_in : (o : Direction) (work : Rect) → Within board work → (T (over kerf f p o) → span o p + kerf < span o work) → All (Within board) (behind kerf f p o work)
    behind_in o work w r = all_if (Within board) (over kerf f p o) (second_part o (span o p) kerf work) λ t. within_trans w (second_within o (span o p) work (r t))

    subtree_in : (d : Direction) (t : SliceNode) → insert_subtree d kerf f p c ≡ some t → TreeIn kerf board t
    subtree_in d t e =
        let first = before kerf f p d in
        let o = crossing d in
        let u = cut_twice kerf f p d c t e in
        let w = within_trans inside (first_within d (span d p) f (piece_short d)) in
        cut_off_in f d (span d p) (behind kerf f p d f) u.value t inside (behind_in d f inside (room kerf f p d))
        (cut_off_in first o (span o p) (behind kerf f p o first) (leaf p (cut_piece (cut_key c))) u.value w (behind_in o first w (crossing_room kerf f p d)) piece_in_lem u.first) u.rest
      where
        piece_short : (o : Direction) → span o p ≤ span o f
        piece_short Direction.Horizontal = at.length
        piece_short Direction.Vertical = at.width

-- ---- a sheet's guide

pub insert_guide_in : (kerf : ℕ) (s : GuillotineSheet) (i : Insertion) (p : Place) → PanelRange i.cut → Positive p.fit.rect → Within (stock_rect s.stock) p.free_rect
    → Good s i p → GuideIn kerf s → GuideIn kerf (insert_at kerf s i p)
unfolding insert_at nodes_of
insert_guide_in kerf s i p r pos w g h = go (insert_at kerf s i p).slicing_tree refl
  where
    go : (o : Option SliceNode) → (insert_at kerf s i p).slicing_tree ≡ o → All (NodeWithin kerf (stock_rect s.stock)) (nodes_of o)
    go none e = tt
    go (some t) e =
        let n = regrown kerf s i p t e in
        graft_in kerf (stock_rect s.stock) n.graft (subst (λ (o : Option SliceNode). All (NodeWithin kerf (stock_rect s.stock)) (nodes_of o)) n.was h)
        (subtree_in kerf (stock_rect s.stock) p.free_rect p.fit.rect i.cut g.fits.corner pos w r _ n.sub n.made)
