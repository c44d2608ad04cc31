-- The parts of a guide: the root's part is the whole sheet, a cut's children have the parts before its offset and after its kerf. A node's
-- rectangle lies at its part's corner and falls short of it by at most a kerf on each axis; a free leaf fills its part.
use Rattle.std.specs.Prelude.{if◌then◌else◌}
use Prim.Native.Nat.{ℕ, ◌+◌, ◌-◌, ◌≤◌, ◌<◌}
use native.Mathlib.Nat.{le_refl}
use native.Mathlib.Omega.{arith}
use mathlib.Core.Path.{◌≡◌, refl, subst}
use mathlib.Core.Bool.{Bool, true, false, not}
use mathlib.Core.List.{[], ◌∷◌}
use mathlib.Core.Option.{some, some-injective}
use lib.Dec.{T, ltb, nltb→le}
use Rattle.model.specs.declared.Rect.{Rect}
use Rattle.model.specs.declared.Direction.{Direction}
use Rattle.model.specs.declared.StockInstance.{StockInstance}
use Rattle.model.specs.declared.CutInstance.{CutInstance}
use Rattle.model.specs.Types.{stock_rect, cut_key}
use Rattle.model.specs.Guide.{SliceNode, leaf, cut_piece, span, cut_off, insert_subtree}
use Rattle.model.specs.Sheet.{GuillotineSheet, Insertion, Place, new_sheet, insert_at}
use Rattle.trust.specs.WellCut.{InPart, PartsOk, WellCut, cut_in, first_part, free_in, piece_in, second_part}
use Rattle.trust.specs.Sound.{Positive}
use Rattle.trust.proofs.Placing.{Good}
use Rattle.trust.proofs.Sheet.{lies_positive}
use Rattle.trust.proofs.RectLayout.{Corner}
use Rattle.trust.proofs.Guide.{crossing, over, before, inner, cut_twice, room, crossing_room, piece_span, before_positive, guide_cut_some, Grafted, at_leaf, in_first, in_second, regrown}

-- ---- replacing a free leaf by what is well cut in its place

graft_well : {kerf : ℕ} {target : Rect} {sub : SliceNode} {part : Rect} {tree t : SliceNode} → Grafted target sub tree t → WellCut kerf part tree → WellCut kerf target sub → WellCut kerf part t
graft_well at_leaf (free_in part) w = w
graft_well (in_first g) (cut_in {part = part} {work = work} {o = o} {offset = offset} h z r p q) w = cut_in h z r (graft_well {part = first_part o offset work} g p w) q
graft_well {kerf = kerf} (in_second g) (cut_in {part = part} {work = work} {o = o} {offset = offset} h z r p q) w = cut_in h z r p (graft_well {part = second_part o offset kerf work} g q w)

-- ---- the subtree of an insertion is well cut in the free rectangle

cut_off_well : (kerf : ℕ) (part work : Rect) (o : Direction) (offset : ℕ) (b : Bool) (node tree : SliceNode) → Positive work → 0 < offset
    → (T b → offset + kerf < span o work) → (T b → InPart kerf part work) → (T b → WellCut kerf (first_part o offset work) node) → (T (not b) → WellCut kerf part node)
    → cut_off work o offset kerf (if b then second_part o offset kerf work ∷ [] else []) node ≡ some tree → WellCut kerf part tree
unfolding cut_off
cut_off_well kerf part work o offset true node tree s h k i f g e =
    subst (WellCut kerf part) (some-injective _ tree (rw (guide_cut_some work o offset kerf s h (k tt)) at e)) (cut_in (i tt) h (k tt) (f tt) (free_in _))
cut_off_well kerf part work o offset false node tree s h k i f g e = subst (WellCut kerf part) (some-injective node tree e) (g tt)

module _ (kerf : ℕ) (f p : Rect) (c : CutInstance) (at : Corner f p) (s : Positive p) where
  -- a side that has no remainder falls short by at most a kerf
  short : (a b : ℕ) → a ≤ b → T (not (ltb kerf (b - a))) → b ≤ a + kerf
  short a b h t = omega (arith, nltb→le kerf (b - a) t)

  -- the parts of the two cuts and of the piece between them
  before_in : (d : Direction) → T (not (over kerf f p d)) → InPart kerf f (before kerf f p d)
  before_in Direction.Horizontal t = record { x = refl; y = refl; width = le_refl _; width_short = omega arith; length = at.length; length_short = short p.length f.length at.length t }
  before_in Direction.Vertical t = record { x = refl; y = refl; width = at.width; width_short = short p.width f.width at.width t; length = le_refl _; length_short = omega arith }

  piece_in_both : (d : Direction) → InPart kerf (first_part (crossing d) (span (crossing d) p) (before kerf f p d)) p
  piece_in_both Direction.Horizontal = record { x = at.x; y = at.y; width = le_refl _; width_short = omega arith; length = le_refl _; length_short = omega arith }
  piece_in_both Direction.Vertical = record { x = at.x; y = at.y; width = le_refl _; width_short = omega arith; length = le_refl _; length_short = omega arith }

  piece_in_one : (d : Direction) → T (not (over kerf f p (crossing d))) → InPart kerf (before kerf f p d) p
  piece_in_one Direction.Horizontal u = record { x = at.x; y = at.y; width = at.width; width_short = short p.width f.width at.width u; length = le_refl _; length_short = omega arith }
  piece_in_one Direction.Vertical u = record { x = at.x; y = at.y; width = le_refl _; width_short = omega arith; length = at.length; length_short = short p.length f.length at.length u }

  whole_in : T (not (over kerf f p Direction.Horizontal)) → T (not (over kerf f p Direction.Vertical)) → InPart kerf f p
  whole_in t u = record { x = at.x; y = at.y; width = at.width; width_short = short p.width f.width at.width u; length = at.length; length_short = short p.length f.length at.length t }

  piece_in_none : (d : Direction) → T (not (over kerf f p d)) → T (not (over kerf f p (crossing d))) → InPart kerf f p
  piece_in_none Direction.Horizontal t u = whole_in t u
  piece_in_none Direction.Vertical t u = whole_in u t

  pub subtree_well : (d : Direction) (tree : SliceNode) → insert_subtree d kerf f p c ≡ some tree → WellCut kerf f tree
  subtree_well d tree e =
      let u = cut_twice kerf f p d c tree e in
      cut_off_well kerf f f d (span d p) (over kerf f p d) u.value tree (record { wide = omega arith; long = omega arith }) (piece_span kerf f p s d) (room kerf f p d) (λ t. whole_part f)
      (λ t. within (before kerf f p d) (whole_part (before kerf f p d)) (piece_in_one d) u.value u.first)
      (λ t. within f (before_in d t) (piece_in_none d t) u.value u.first) u.rest
    where
      whole_part : (r : Rect) → InPart kerf r r
      whole_part r = record { x = refl; y = refl; width = le_refl _; width_short = omega arith; length = le_refl _; length_short = omega arith }

      within : (part : Rect) → InPart kerf part (before kerf f p d) → (T (not (over kerf f p (crossing d))) → InPart kerf part p) → (n : SliceNode)
          → inner kerf f p d (leaf p (cut_piece (cut_key c))) ≡ some n → WellCut kerf part n
      within part i j n k =
          cut_off_well kerf part (before kerf f p d) (crossing d) (span (crossing d) p) (over kerf f p (crossing d)) (leaf p (cut_piece (cut_key c))) n
          (before_positive kerf f p at s d) (piece_span kerf f p s (crossing d)) (crossing_room kerf f p d) (λ t. i) (λ t. piece_in (piece_in_both d)) (λ t. piece_in (j t)) k

-- ---- a sheet's guide

pub new_parts : (kerf : ℕ) (stock : StockInstance) → PartsOk kerf (new_sheet stock)
unfolding new_sheet
new_parts kerf stock tree e = subst (WellCut kerf (stock_rect stock)) (some-injective _ tree e) (free_in (stock_rect stock))

pub insert_parts : (kerf : ℕ) (s : GuillotineSheet) (i : Insertion) (p : Place) → 0 < i.cut.width → 0 < i.cut.length → Good s i p → PartsOk kerf s → PartsOk kerf (insert_at kerf s i p)
unfolding insert_at
insert_parts kerf s i p w l g h tree e =
    let r = regrown kerf s i p tree e in
    graft_well r.graft (h r.old r.was)
    (subtree_well kerf p.free_rect p.fit.rect i.cut g.fits.corner (lies_positive i.cut p w l g.fits.lies) _ r.sub r.made)
