-- Nodes are those of at most one guide: a tree is told by its nodes in preorder, and a node by its eight words, so that words are too.
use Rattle.std.specs.Prelude.{if◌then◌else◌}
use Prim.Native.Nat.{ℕ, zero, suc, ◌+◌, ◌*◌, ◌^◌}
use native.Mathlib.Omega.{arith}
use mathlib.Core.Path.{◌≡◌, refl, sym, ap, ◌∙◌}
use mathlib.Core.List.{List, [], ◌∷◌, ◌++◌, append_assoc, append-nil}
use mathlib.Core.Option.{Option, none, some}
use lib.Dec.{eqb}
use lib.ListN.{length, get_or, take, drop, length-append}
use lib.Seq.{take_at, drop_at}
use Rattle.lists.specs.Base.{concat_map}
use Rattle.lists.proofs.Maps.{concat_map_append}
use Rattle.trust.specs.Words.{rect_at}
use Rattle.trust.proofs.RoundTrip.{key_written, node_size_lem}
use Rattle.model.specs.declared.Rect.{Rect}
use Rattle.model.specs.declared.Direction.{Direction}
use Rattle.model.specs.declared.InstanceKey.{InstanceKey}
use Rattle.model.specs.Types.{direction_code}
use Rattle.model.specs.Guide.{GuideCut, LeafKind, SliceNode, cut, leaf, free, cut_piece}
use Rattle.model.specs.Plan.{node_words, preorder, nodes_of}
use Rattle.guide.specs.declared.subtree.Node.{Node}
use Rattle.guide.specs.declared.subtree.Node.TheVariants as node
use Rattle.guide.specs.Nodes.{node_of, tree_nodes, guide_nodes, words_of}
use Rattle.guide.proofs.subtree.Trees.{tree_nodes_cut, tree_nodes_leaf, guide_nodes_some, guide_nodes_none, words_of_lem}

-- ---- what a node says

cut_told : (c d : GuideCut) (a b p q : SliceNode) → node_of (cut c a b) ≡ node_of (cut d p q) → c ≡ d
cut_told c d a b p q e =
    let work : c.work_rect ≡ d.work_rect = cc in
    let way : c.orientation ≡ d.orientation = cc in
    let offset : c.offset ≡ d.offset = cc in
    let kerf : c.kerf_width ≡ d.kerf_width = cc in
    λ i. record { work_rect = work i; orientation = way i; offset = offset i; kerf_width = kerf i }

leaf_told : (r q : Rect) (k j : LeafKind) → node_of (leaf r k) ≡ node_of (leaf q j) → leaf r k ≡ leaf q j
leaf_told r q free free e = cc
leaf_told r q free (cut_piece key) e = cc
leaf_told r q (cut_piece key) free e = cc
leaf_told r q (cut_piece key) (cut_piece other) e = cc

no_leaf : (c : GuideCut) (a b : SliceNode) (r : Rect) (k : LeafKind) → node_of (cut c a b) ≡ node_of (leaf r k) → ⊥
no_leaf c a b r free e = cc
no_leaf c a b r (cut_piece key) e = cc

-- ---- a tree is told by its nodes, whatever follows them

cut_front : (c : GuideCut) (a b : SliceNode) (x : List Node) → tree_nodes (cut c a b) ++ x ≡ node_of (cut c a b) ∷ (tree_nodes a ++ (tree_nodes b ++ x))
cut_front c a b x = ap (λ (l : List Node). l ++ x) (tree_nodes_cut c a b) ∙ ap (λ (l : List Node). node_of (cut c a b) ∷ l) (append_assoc (tree_nodes a) (tree_nodes b) x)

leaf_front : (r : Rect) (k : LeafKind) (x : List Node) → tree_nodes (leaf r k) ++ x ≡ node_of (leaf r k) ∷ x
leaf_front r k x = ap (λ (l : List Node). l ++ x) (tree_nodes_leaf r k)

both : (m n : Node) (x y : List Node) → m ∷ x ≡ n ∷ y → (m ≡ n) × (x ≡ y)
both m n x y e = (cc, cc)

tree_told : (s t : SliceNode) (x y : List Node) → tree_nodes s ++ x ≡ tree_nodes t ++ y → (s ≡ t) × (x ≡ y)
tree_told (cut c a b) (cut d p q) x y e =
    let f = both _ _ _ _ (sym (cut_front c a b x) ∙ e ∙ cut_front d p q y) in
    let same : c ≡ d = cut_told c d a b p q f.0 in
    let first = tree_told a p (tree_nodes b ++ x) (tree_nodes q ++ y) f.1 in
    let second = tree_told b q x y first.1 in
    (λ i. cut (same i) (first.0 i) (second.0 i), second.1)
tree_told (cut c a b) (leaf r k) x y e = absurd (no_leaf c a b r k (both _ _ _ _ (sym (cut_front c a b x) ∙ e ∙ leaf_front r k y)).0)
tree_told (leaf r k) (cut c a b) x y e = absurd (no_leaf c a b r k (sym (both _ _ _ _ (sym (leaf_front r k x) ∙ e ∙ cut_front c a b y)).0))
tree_told (leaf r k) (leaf q j) x y e =
    let f = both _ _ _ _ (sym (leaf_front r k x) ∙ e ∙ leaf_front q j y) in
    (leaf_told r q k j f.0, f.1)

no_tree : (t : SliceNode) → tree_nodes t ≡ [] → ⊥
no_tree (cut c a b) e = (let f = sym (tree_nodes_cut c a b) ∙ e in cc)
no_tree (leaf r k) e = (let f = sym (tree_nodes_leaf r k) ∙ e in cc)

pub guide_told : (g h : Option SliceNode) → guide_nodes g ≡ guide_nodes h → g ≡ h
guide_told none none e = refl
guide_told none (some t) e = absurd (no_tree t (sym (guide_nodes_some t) ∙ sym e ∙ guide_nodes_none))
guide_told (some s) none e = absurd (no_tree s (sym (guide_nodes_some s) ∙ e ∙ guide_nodes_none))
guide_told (some s) (some t) e =
    ap some (tree_told s t [] [] (append-nil (tree_nodes s) ∙ sym (guide_nodes_some s) ∙ e ∙ guide_nodes_some t ∙ sym (append-nil (tree_nodes t)))).0

-- ---- what eight words say

abbrev direction_of : ℕ → Direction
direction_of zero = Direction.Horizontal
direction_of (suc n) = Direction.Vertical

direction_back : (d : Direction) → direction_of (direction_code d) ≡ d
direction_back Direction.Horizontal = refl
direction_back Direction.Vertical = refl

abbrev node_from : List ℕ → Node
node_from l =
    if eqb (get_or l 0 0) 0 then node.Cut (rect_at l 4) (direction_of (get_or l 1 0)) (get_or l 2 0) (get_or l 3 0)
    else if eqb (get_or l 0 0) 1 then node.Piece (rect_at l 4) (record { id = get_or l 1 0 + 2 ^ 32 * get_or l 2 0; instance = get_or l 3 0 })
    else node.Free (rect_at l 4)

node_back : (n : Node) → node_from (words_of n) ≡ n
unfolding node_words rect_at
node_back (node.Cut work orientation offset kerf) = ap (λ (d : Direction). node.Cut work d offset kerf) (direction_back orientation)
node_back (node.Piece r key) = ap (λ (k : InstanceKey). node.Piece r k) (key_written key)
node_back (node.Free r) = refl

pub node_told : (m n : Node) → words_of m ≡ words_of n → m ≡ n
node_told m n e = sym (node_back m) ∙ ap node_from e ∙ node_back n

-- ---- a tree is told by its words, whatever follows them

abbrev tree_words : SliceNode → List ℕ
tree_words t = concat_map node_words (preorder t)

module _ (s t : SliceNode) (x y : List ℕ) (e : node_words s ++ x ≡ node_words t ++ y) where
  same_words : node_words s ≡ node_words t
  same_words = sym (take_at (node_words s) x 8 (node_size_lem s)) ∙ ap (take 8) e ∙ take_at (node_words t) y 8 (node_size_lem t)

  same_node : node_of s ≡ node_of t
  same_node = node_told (node_of s) (node_of t) (words_of_lem s ∙ same_words ∙ sym (words_of_lem t))

  same_rest : x ≡ y
  same_rest = sym (drop_at (node_words s) x 8 (node_size_lem s)) ∙ ap (drop 8) e ∙ drop_at (node_words t) y 8 (node_size_lem t)

cut_words : (c : GuideCut) (a b : SliceNode) (x : List ℕ) → tree_words (cut c a b) ++ x ≡ node_words (cut c a b) ++ (tree_words a ++ (tree_words b ++ x))
unfolding concat_map preorder
cut_words c a b x =
    ap (λ (r : List ℕ). (node_words (cut c a b) ++ r) ++ x) (concat_map_append node_words (preorder a) (preorder b))
    ∙ append_assoc (node_words (cut c a b)) (tree_words a ++ tree_words b) x
    ∙ ap (λ (r : List ℕ). node_words (cut c a b) ++ r) (append_assoc (tree_words a) (tree_words b) x)

leaf_words : (r : Rect) (k : LeafKind) (x : List ℕ) → tree_words (leaf r k) ++ x ≡ node_words (leaf r k) ++ x
unfolding concat_map preorder
leaf_words r k x = ap (λ (l : List ℕ). l ++ x) (append-nil (node_words (leaf r k)))

pub tree_words_told : (s t : SliceNode) (x y : List ℕ) → concat_map node_words (preorder s) ++ x ≡ concat_map node_words (preorder t) ++ y → (s ≡ t) × (x ≡ y)
tree_words_told (cut c a b) (cut d p q) x y e =
    let f = sym (cut_words c a b x) ∙ e ∙ cut_words d p q y in
    let same : c ≡ d = cut_told c d a b p q (same_node (cut c a b) (cut d p q) _ _ f) in
    let first = tree_words_told a p (tree_words b ++ x) (tree_words q ++ y) (same_rest (cut c a b) (cut d p q) _ _ f) in
    let second = tree_words_told b q x y first.1 in
    (λ i. cut (same i) (first.0 i) (second.0 i), second.1)
tree_words_told (cut c a b) (leaf r k) x y e = absurd (no_leaf c a b r k (same_node (cut c a b) (leaf r k) _ _ (sym (cut_words c a b x) ∙ e ∙ leaf_words r k y)))
tree_words_told (leaf r k) (cut c a b) x y e = absurd (no_leaf c a b r k (sym (same_node (leaf r k) (cut c a b) _ _ (sym (leaf_words r k x) ∙ e ∙ cut_words c a b y))))
tree_words_told (leaf r k) (leaf q j) x y e =
    let f = sym (leaf_words r k x) ∙ e ∙ leaf_words q j y in
    (leaf_told r q k j (same_node (leaf r k) (leaf q j) _ _ f), same_rest (leaf r k) (leaf q j) _ _ f)

no_words : (t : SliceNode) → tree_words t ≡ [] → ⊥
unfolding concat_map preorder
no_words (cut c a b) e = omega (arith, ap length e, length-append (node_words (cut c a b)) (concat_map node_words (preorder a ++ preorder b)), node_size_lem (cut c a b))
no_words (leaf r k) e = omega (arith, ap length e, length-append (node_words (leaf r k)) [], node_size_lem (leaf r k))

pub guide_words_told : (g h : Option SliceNode) → concat_map node_words (nodes_of g) ≡ concat_map node_words (nodes_of h) → g ≡ h
unfolding nodes_of concat_map
guide_words_told none none e = refl
guide_words_told none (some t) e = absurd (no_words t (sym e))
guide_words_told (some s) none e = absurd (no_words s e)
guide_words_told (some s) (some t) e = ap some (tree_words_told s t [] [] (append-nil (tree_words s) ∙ e ∙ sym (append-nil (tree_words t)))).0
