-- How many free rectangles and guide nodes a sheet has at most: pieces + 1, and four times the pieces + 1.
use Rattle.std.specs.Prelude.{if◌then◌else◌}
use Prim.Native.Nat.{ℕ, zero, suc, ◌+◌, ◌-◌, ◌*◌, ◌≤◌}
use native.Mathlib.Nat.{le_refl}
use native.Mathlib.Omega.{arith}
use mathlib.Core.Path.{◌≡◌, refl, ap, subst}
use mathlib.Core.Bool.{Bool, true, false}
use mathlib.Core.List.{List, [], ◌∷◌, ◌++◌}
use mathlib.Core.Option.{Option, none, some, some-injective, none-ne-some}
use lib.Dec.{ltb}
use lib.ListN.{length, length-append}
use Rattle.lists.specs.Base.{◌>>=◌, swap_remove}
use Rattle.model.specs.declared.Rect.{Rect}
use Rattle.model.specs.declared.Direction.{Direction}
use Rattle.model.specs.declared.CutInstance.{CutInstance}
use Rattle.model.specs.Types.{rect, no_rect, cut_key}
use Rattle.model.specs.Split.{split_direction, bottom_remainder, right_remainder, split_free_rect, bottom_width, right_length}
use Rattle.model.specs.Merge.{Pair, first_pair, apply_merge, merge_rounds, merge_free_rects}
use Rattle.model.specs.Guide.{GuideCut, SliceNode, cut, leaf, free, cut_piece, span, guide_cut, cut_off, insert_subtree}
use Rattle.model.specs.Sheet.{GuillotineSheet, PlacedPiece, Insertion, Place, split_rects, insert_at}
use Rattle.model.specs.Plan.{preorder, nodes_of}
use Rattle.trust.specs.Proper.{FreeCount, NodeCount}
use Rattle.lists.proofs.Perm.{length_perm, swap_remove_out}
use Rattle.trust.proofs.Merging.{first_pair_mergeable, round_length}
use Rattle.trust.proofs.Guide.{crossing, before, behind, cut_twice, Grafted, at_leaf, in_first, in_second, regrown}
use Rattle.trust.proofs.Placing.{Good}

-- ---- free rectangles

one_or_none : {A : Type 0} (b : Bool) (x : A) → length (if b then x ∷ [] else []) ≤ 1
one_or_none true x = le_refl 1
one_or_none false x = omega arith

pub split_length : (d : Direction) (kerf : ℕ) (f p : Rect) → length (split_free_rect d kerf f p) ≤ 2
unfolding split_free_rect bottom_remainder right_remainder
split_length d kerf f p =
    omega (
      arith,
      length-append (bottom_remainder kerf f p (bottom_width d f p)) (right_remainder kerf f p (right_length d f p)),
      one_or_none (ltb kerf (f.length - p.length)) (rect f.x (f.y + p.length + kerf) (bottom_width d f p) (f.length - p.length - kerf)),
      one_or_none (ltb kerf (f.width - p.width)) (rect (f.x + p.width + kerf) f.y (f.width - p.width - kerf) (right_length d f p)),
    )

pub merge_length : (kerf n : ℕ) (rs : List Rect) → length (merge_rounds n kerf rs) ≤ length rs
unfolding merge_rounds
merge_length kerf zero rs = le_refl _
merge_length kerf (suc n) rs = go (first_pair kerf rs) refl (merge_length kerf n)
  where
    go : (o : Option Pair) → first_pair kerf rs ≡ o → ((xs : List Rect) → length (merge_rounds n kerf xs) ≤ length xs)
        → length {A = Rect} (elim o [ none ↦ rs | some p ↦ merge_rounds n kerf (apply_merge rs p) ]) ≤ length rs
    go none e later = le_refl _
    go (some p) e later = omega (arith, later (apply_merge rs p), round_length rs p (first_pair_mergeable kerf rs p e))

pub insert_free : (kerf : ℕ) (s : GuillotineSheet) (i : Insertion) (p : Place) → Good s i p → FreeCount s → FreeCount (insert_at kerf s i p)
unfolding insert_at split_rects merge_free_rects
insert_free kerf s i p g h =
    let d = split_direction p.free_rect p.fit.rect i.heuristic.split in
    let left = swap_remove no_rect p.index s.free_rects in
    let new = split_free_rect d kerf p.free_rect p.fit.rect in
    let q : PlacedPiece = record { by = i; fit = p.fit } in
    omega (
      arith,
      merge_length kerf (length (left ++ new)) (left ++ new),
      length-append left new,
      split_length d kerf p.free_rect p.fit.rect,
      length_perm (swap_remove_out no_rect s.free_rects p.index g.inside),
      length-append s.placed_pieces (q ∷ []),
    )

-- ---- guide nodes

abbrev nodes : SliceNode → ℕ
nodes t = length (preorder t)

cut_nodes : (c : GuideCut) (a b : SliceNode) → nodes (cut c a b) ≡ suc (nodes a + nodes b)
unfolding preorder
cut_nodes c a b = ap suc (length-append (preorder a) (preorder b))

graft_nodes : {target : Rect} {sub tree t : SliceNode} → Grafted target sub tree t → nodes t + 1 ≡ nodes tree + nodes sub
graft_nodes at_leaf = unfold preorder in omega arith
graft_nodes (in_first {c} {a} {b} {n} g) = omega (arith, graft_nodes g, cut_nodes c n b, cut_nodes c a b)
graft_nodes (in_second {c} {a} {b} {n} g) = omega (arith, graft_nodes g, cut_nodes c a n, cut_nodes c a b)

cut_off_nodes : (work : Rect) (o : Direction) (offset kerf : ℕ) (rs : List Rect) (node t : SliceNode) → cut_off work o offset kerf rs node ≡ some t → nodes t ≤ nodes node + 2
unfolding cut_off preorder
cut_off_nodes work o offset kerf [] node t e = subst (λ (z : SliceNode). nodes z ≤ nodes node + 2) (some-injective node t e) (omega arith)
cut_off_nodes work o offset kerf (r ∷ rs) node t e = go (guide_cut work o offset kerf) e
  where
    go : (q : Option GuideCut) → (q >>= λ c. some (cut c node (leaf r free))) ≡ some t → nodes t ≤ nodes node + 2
    go none k = absurd (none-ne-some t k)
    go (some c) k = subst (λ (z : SliceNode). nodes z ≤ nodes node + 2) (some-injective _ t k) (omega (arith, cut_nodes c node (leaf r free)))

pub subtree_nodes : (d : Direction) (kerf : ℕ) (f p : Rect) (c : CutInstance) (t : SliceNode) → insert_subtree d kerf f p c ≡ some t → nodes t ≤ 5
unfolding preorder
subtree_nodes d kerf f p c t e =
    let piece = leaf p (cut_piece (cut_key c)) in
    let u = cut_twice kerf f p d c t e in
    omega (
      arith,
      cut_off_nodes (before kerf f p d) (crossing d) (span (crossing d) p) kerf (behind kerf f p (crossing d) (before kerf f p d)) piece u.value u.first,
      cut_off_nodes f d (span d p) kerf (behind kerf f p d f) u.value t u.rest,
    )

pub insert_nodes : (kerf : ℕ) (s : GuillotineSheet) (i : Insertion) (p : Place) → NodeCount s → NodeCount (insert_at kerf s i p)
unfolding nodes_of
insert_nodes kerf s i p h = go (insert_at kerf s i p).slicing_tree refl
  where
    q : PlacedPiece
    q = record { by = i; fit = p.fit }

    more : length (insert_at kerf s i p).placed_pieces ≡ length s.placed_pieces + 1
    more = unfold insert_at in length-append s.placed_pieces (q ∷ [])

    go : (o : Option SliceNode) → (insert_at kerf s i p).slicing_tree ≡ o → length (nodes_of o) ≤ 4 * length (insert_at kerf s i p).placed_pieces + 1
    go none e = omega arith
    go (some t) e =
        let r = regrown kerf s i p t e in
        omega (arith, more, graft_nodes r.graft, ap (λ (o : Option SliceNode). length (nodes_of o)) r.was, subtree_nodes _ kerf p.free_rect p.fit.rect i.cut r.sub r.made)
