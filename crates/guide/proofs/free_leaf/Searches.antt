-- The search by node numbers, among the nodes of a tree.
use Rattle.std.specs.Prelude.{Some, None, cond, not, position, if◌then◌else◌}
use Rattle.std.specs.List.{position_or_len}
use Rattle.std.specs.ControlFlow.{break_value}
use Rattle.std.specs.declared.ops.ControlFlow.TheVariants.{Break, Continue}
use Rattle.std.proofs.lemmas.List.{drop-drop}
use Rattle.std.proofs.lemmas.Option.{none-some}
use Rattle.std.proofs.Math.Numerals.{add-one}
use Rattle.std.proofs.lemmas.List.Sums.{prefix_len-le-length}
use Rattle.std.proofs.lemmas.List.Folds.{prefix_len-append}
use Rattle.std.proofs.lemmas.Bool.{ltb-true, ltb-false, lt-ltb, le-ltb, ne_eqb, eq-eqb}
use mathlib.Core.Path.{◌≡◌, refl, sym, ap, ap₂, ◌∙◌, subst}
use mathlib.Core.Bool.{Bool, true, false, ◌&&◌}
use mathlib.Core.List.{List, [], ◌∷◌, ◌++◌, append_assoc, append-nil}
use Prim.Native.Nat.{ℕ, zero, suc, ◌+◌, ◌<◌, ◌≤◌}
use native.Mathlib.Nat.{add-zero}
use native.Mathlib.Omega.{arith}
use lib.Dec.{eqb, ltb}
use lib.ListN.{length, get_or, drop, drop_of_length-le}
use lib.Seq.{drop-cons}
use Rattle.model.specs.declared.Rect.{Rect}
use Rattle.model.specs.declared.Direction.{Direction}
use Rattle.model.specs.Types.{same_rect}
use Rattle.model.specs.Guide.{GuideCut, LeafKind, SliceNode, cut, leaf, free, cut_piece}
use Rattle.model.specs.Plan.{preorder}
use Rattle.guide.specs.declared.subtree.Node.{Node}
use Rattle.guide.specs.Nodes.{node_of, tree_nodes}
use Rattle.guide.proofs.subtree.Trees.{tree_nodes_cut, tree_nodes_leaf}
use Rattle.guide.specs.Leaves.{is_free_leaf, Reached, leaf_among, leaf_behind, free_leaf}
use Rattle.guide.proofs.free_leaf.Sizes.{size, size_cut}

-- ---- equal rectangles, as `==` and as the definition compare them

all_four : (p q r s : Bool) → p && (q && (r && s)) ≡ (p && q && r) && s
all_four true true r s = refl
all_four true false r s = refl
all_four false q r s = refl

pub same_rect_is : (a b : Rect) → eqb a.x b.x && (eqb a.y b.y && (eqb a.width b.width && eqb a.length b.length)) ≡ same_rect a b
unfolding same_rect
same_rect_is a b = all_four (eqb a.x b.x) (eqb a.y b.y) (eqb a.width b.width) (eqb a.length b.length)

-- ---- the search in one tree

abbrev then_past : Reached → (ℕ → Reached) → Reached
then_past (Break i) next = Break i
then_past (Continue j) next = next j

-- whose root is the node of a number
unfoldable leaf_from : Rect → ℕ → SliceNode → Reached
leaf_from target at (cut c first second) = then_past (leaf_from target (at + 1) first) (λ next. leaf_from target next second)
leaf_from target at (leaf r free) = if same_rect r target then Break at else Continue (at + 1)
leaf_from target at (leaf r (cut_piece key)) = Continue (at + 1)

-- ---- a tree before other nodes

cut_front : (c : GuideCut) (a b : SliceNode) (rest : List Node) → tree_nodes (cut c a b) ++ rest ≡ node_of (cut c a b) ∷ (tree_nodes a ++ (tree_nodes b ++ rest))
cut_front c a b rest = ap (λ (l : List Node). l ++ rest) (tree_nodes_cut c a b) ∙ ap (λ (l : List Node). node_of (cut c a b) ∷ l) (append_assoc (tree_nodes a) (tree_nodes b) rest)

leaf_front : (r : Rect) (k : LeafKind) (rest : List Node) → tree_nodes (leaf r k) ++ rest ≡ node_of (leaf r k) ∷ rest
leaf_front r k rest = ap (λ (l : List Node). l ++ rest) (tree_nodes_leaf r k)

-- ---- the search ends at the first free leaf, or past the tree

abbrev first_of : Rect → SliceNode → ℕ
first_of target tree = position_or_len (is_free_leaf target) (tree_nodes tree)

abbrev ended : ℕ → ℕ → ℕ → Reached
ended at k m = cond (ltb k m) (Break (at + k)) (Continue (at + m))

both_ended : (at ka sa kb sb : ℕ) → ka ≤ sa
    → then_past (ended (at + 1) ka sa) (λ next. ended next kb sb) ≡ ended at (1 + cond (eqb ka sa) (sa + kb) ka) (1 + (sa + sb))
both_ended at ka sa kb sb h = go (ltb ka sa) refl
  where
    go : (t : Bool) → ltb ka sa ≡ t
        → then_past (cond t (Break (at + 1 + ka)) (Continue (at + 1 + sa))) (λ next. ended next kb sb)
        ≡ ended at (1 + cond (eqb ka sa) (sa + kb) ka) (1 + (sa + sb))
    go true e =
        let lt : ka < sa = ltb-true ka sa e in
        let here : at + 1 + ka ≡ at + (1 + ka) = omega arith in
        rw (ne_eqb ka sa (λ q. omega arith), lt-ltb (1 + ka) (1 + (sa + sb)) (omega arith), here)
    go false e =
        let eq : ka ≡ sa = (let le = ltb-false ka sa e in omega arith) in
        second (ltb kb sb) refl
      where
        second : (t : Bool) → ltb kb sb ≡ t
            → cond t (Break (at + 1 + sa + kb)) (Continue (at + 1 + sa + sb)) ≡ ended at (1 + cond (eqb ka sa) (sa + kb) ka) (1 + (sa + sb))
        second true f =
            let le = ltb-false ka sa e in
            let lt = ltb-true kb sb f in
            let here : at + 1 + sa + kb ≡ at + (1 + (sa + kb)) = omega arith in
            rw (eq-eqb ka sa (omega arith), lt-ltb (1 + (sa + kb)) (1 + (sa + sb)) (omega arith), here)
        second false f =
            let le = ltb-false ka sa e in
            let ge = ltb-false kb sb f in
            let past : at + 1 + sa + sb ≡ at + (1 + (sa + sb)) = omega arith in
            rw (eq-eqb ka sa (omega arith), le-ltb (1 + (sa + kb)) (1 + (sa + sb)) (omega arith), past)

cut_places : (target : Rect) (c : GuideCut) (a b : SliceNode)
    → first_of target (cut c a b) ≡ 1 + cond (eqb (first_of target a) (size a)) (size a + first_of target b) (first_of target a)
cut_places target c a b =
    ap (position_or_len (is_free_leaf target)) (tree_nodes_cut c a b)
    ∙ ap (λ (k : ℕ). 1 + k) (prefix_len-append (λ n. not (is_free_leaf target n)) (tree_nodes a) (tree_nodes b))

first_within : (target : Rect) (t : SliceNode) → first_of target t ≤ size t
first_within target t = prefix_len-le-length (λ n. not (is_free_leaf target n)) (tree_nodes t)

places : (target : Rect) (at : ℕ) (t : SliceNode) → leaf_from target at t ≡ ended at (first_of target t) (size t)
unfolding leaf_from preorder
places target at (cut c a b) =
    let both : 1 + (size a + size b) ≡ size (cut c a b) = omega (arith, size_cut c a b) in
    ap₂ then_past (places target (at + 1) a) (λ i next. places target next b i)
    ∙ both_ended at (first_of target a) (size a) (first_of target b) (size b) (first_within target a)
    ∙ ap₂ (ended at) (sym (cut_places target c a b)) both
places target at (leaf r free) = either (same_rect r target)
  where
    either : (t : Bool) → (if t then Break at else Continue (at + 1)) ≡ ended at (cond (not t) 1 0) 1
    either true = ap Break (sym (add-zero at))
    either false = refl
places target at (leaf r (cut_piece key)) = refl

found_is : (target : Rect) (t : SliceNode) → break_value (leaf_from target 0 t) ≡ position (is_free_leaf target) (tree_nodes t)
found_is target t = ap break_value (places target 0 t) ∙ either (ltb (first_of target t) (size t))
  where
    either : (b : Bool) → break_value (cond b (Break (0 + first_of target t)) (Continue (0 + size t))) ≡ cond b (Some (first_of target t)) None
    either true = (let from_none : 0 + first_of target t ≡ first_of target t = omega arith in ap Some from_none)
    either false = refl

-- ---- trees one behind the other

then_past_past : (found : Reached) (f g : ℕ → Reached) → then_past (then_past found f) g ≡ then_past found (λ next. then_past (f next) g)
then_past_past (Break i) f g = refl
then_past_past (Continue j) f g = refl

-- a tree first, and then what stands behind it
among_tree : (target : Rect) (at trees : ℕ) (t : SliceNode) (rest : List Node)
    → leaf_among target at (suc trees) (tree_nodes t ++ rest) ≡ then_past (leaf_from target at t) (λ next. leaf_among target next trees rest)
unfolding leaf_among leaf_from
among_tree target at trees (cut c a b) rest =
    ap (leaf_among target at (suc trees)) (cut_front c a b rest)
    ∙ among_tree target (at + 1) (suc trees) a (tree_nodes b ++ rest)
    ∙ ap (then_past (leaf_from target (at + 1) a)) (λ i next. among_tree target next trees b rest i)
    ∙ sym (then_past_past (leaf_from target (at + 1) a) (λ next. leaf_from target next b) (λ next. leaf_among target next trees rest))
among_tree target at trees (leaf r free) rest = ap (leaf_among target at (suc trees)) (leaf_front r free rest) ∙ either (same_rect r target)
  where
    either : (b : Bool) → (if b then Break at else leaf_among target (at + 1) trees rest)
        ≡ then_past (if b then Break at else Continue (at + 1)) (λ next. leaf_among target next trees rest)
    either true = refl
    either false = refl
among_tree target at trees (leaf r (cut_piece key)) rest = ap (leaf_among target at (suc trees)) (leaf_front r (cut_piece key) rest)

-- ---- the ways through the search

module _ (nodes : List Node) (target : Rect) where
  -- one tree more is searched where the others end
  one_more : (at trees : ℕ) (l : List Node) → l ≡ drop at nodes
      → leaf_among target at (suc trees) l ≡ then_past (leaf_among target at trees l) (λ next. leaf_behind target next nodes)
  unfolding leaf_among
  one_more at zero l e = ap (leaf_among target at 1) e
  one_more at (suc trees) [] e = ap (leaf_among target at 1) e
  one_more at (suc trees) (Node.Cut work o offset kerf ∷ l) e = one_more (at + 1) (suc (suc trees)) l (ap (drop 1) e ∙ drop-drop 1 at nodes)
  one_more at (suc trees) (Node.Piece r key ∷ l) e = one_more (at + 1) trees l (ap (drop 1) e ∙ drop-drop 1 at nodes)
  one_more at (suc trees) (Node.Free r ∷ l) e = either (same_rect r target) (one_more (at + 1) trees l (ap (drop 1) e ∙ drop-drop 1 at nodes))
    where
      either : (b : Bool) → leaf_among target (at + 1) (suc trees) l ≡ then_past (leaf_among target (at + 1) trees l) (λ next. leaf_behind target next nodes)
          → (if b then Break at else leaf_among target (at + 1) (suc trees) l)
          ≡ then_past (if b then Break at else leaf_among target (at + 1) trees l) (λ next. leaf_behind target next nodes)
      either true behind = refl
      either false behind = behind

  module _ (at : ℕ) where
    pub ends_past : length nodes ≤ at → Continue at ≡ leaf_behind target at nodes
    unfolding leaf_among
    ends_past h = ap (leaf_among target at 1) (sym (drop_of_length-le nodes h))

    module _ (n : Node) (inside : at < length nodes) (is : n ≡ get_or nodes at n) where
      from : drop at nodes ≡ n ∷ drop (at + 1) nodes
      from = drop-cons nodes at n inside ∙ ap₂ (λ (m : Node) (k : ℕ). m ∷ drop k nodes) (sym is) (sym (add-one at))

      -- no cut
      ends_leaf : (m : Node) → n ≡ m → ((work : Rect) (o : Direction) (offset kerf : ℕ) → m ≡ Node.Cut work o offset kerf → ⊥)
          → (if is_free_leaf target m then Break at else Continue (at + 1)) ≡ leaf_behind target at nodes
      unfolding leaf_among
      ends_leaf (Node.Cut work o offset kerf) e other = absurd (other work o offset kerf refl)
      ends_leaf (Node.Piece r key) e other = sym (ap (leaf_among target at 1) (from ∙ ap (λ (m : Node). m ∷ drop (at + 1) nodes) e))
      ends_leaf (Node.Free r) e other = sym (ap (leaf_among target at 1) (from ∙ ap (λ (m : Node). m ∷ drop (at + 1) nodes) e))

      pub ends_at : ((work : Rect) (o : Direction) (offset kerf : ℕ) → n ≡ Node.Cut work o offset kerf → ⊥) → true ≡ is_free_leaf target n → Break at ≡ leaf_behind target at nodes
      ends_at other f = ap (λ (b : Bool). if b then Break at else Continue (at + 1)) f ∙ ends_leaf n refl other

      pub ends_behind : ((work : Rect) (o : Direction) (offset kerf : ℕ) → n ≡ Node.Cut work o offset kerf → ⊥) → false ≡ is_free_leaf target n → Continue (at + 1) ≡ leaf_behind target at nodes
      ends_behind other f = ap (λ (b : Bool). if b then Break at else Continue (at + 1)) f ∙ ends_leaf n refl other

      -- a cut: the first child, and where it ends the second
      module _ (work : Rect) (o : Direction) (offset kerf : ℕ) (f : n ≡ Node.Cut work o offset kerf) where
        children : leaf_behind target at nodes ≡ then_past (leaf_behind target (at + 1) nodes) (λ next. leaf_behind target next nodes)
        unfolding leaf_among
        children = ap (leaf_among target at 1) (from ∙ ap (λ (m : Node). m ∷ drop (at + 1) nodes) f) ∙ one_more (at + 1) 1 (drop (at + 1) nodes) refl

        pub ends_first : (i : ℕ) → Break i ≡ leaf_behind target (at + 1) nodes → Break i ≡ leaf_behind target at nodes
        ends_first i first = ap (λ (found : Reached). then_past found (λ next. leaf_behind target next nodes)) first ∙ sym children

        pub ends_second : (next : ℕ) (second : Reached) → Continue next ≡ leaf_behind target (at + 1) nodes → second ≡ leaf_behind target next nodes → second ≡ leaf_behind target at nodes
        ends_second next second first behind = behind ∙ ap (λ (found : Reached). then_past found (λ next. leaf_behind target next nodes)) first ∙ sym children

-- ---- the search goes on, and finds what is there

-- never back to a number before the first, and never a leaf where there is no node
abbrev Onwards : ℕ → ℕ → Reached → Type 0
Onwards at end (Break i) = i < end
Onwards at end (Continue j) = at ≤ j

one_further : (at n : ℕ) (found : Reached) → Onwards (at + 1) (at + 1 + n) found → Onwards at (at + suc n) found
one_further at n (Break i) h = omega arith
one_further at n (Continue j) h = omega arith

onwards : (target : Rect) (at trees : ℕ) (l : List Node) → Onwards at (at + length l) (leaf_among target at trees l)
unfolding leaf_among
onwards target at zero l = omega arith
onwards target at (suc trees) [] = omega arith
onwards target at (suc trees) (Node.Cut work o offset kerf ∷ l) = one_further at (length l) _ (onwards target (at + 1) (suc (suc trees)) l)
onwards target at (suc trees) (Node.Piece r key ∷ l) = one_further at (length l) _ (onwards target (at + 1) trees l)
onwards target at (suc trees) (Node.Free r ∷ l) = either (same_rect r target) (one_further at (length l) _ (onwards target (at + 1) trees l))
  where
    either : (b : Bool) → Onwards at (at + suc (length l)) (leaf_among target (at + 1) trees l) → Onwards at (at + suc (length l)) (if b then Break at else leaf_among target (at + 1) trees l)
    either true behind = omega arith
    either false behind = behind

pub past_is_behind : (nodes : List Node) (target : Rect) (at next : ℕ) → Continue next ≡ leaf_behind target at nodes → at ≤ next
past_is_behind nodes target at next e = subst (Onwards at (at + length (drop at nodes))) (sym e) (onwards target at 1 (drop at nodes))

pub found_below : (nodes : List Node) (target : Rect) (i : ℕ) → free_leaf target nodes ≡ Some i → i < length nodes
found_below nodes target i = go (leaf_behind target 0 nodes) (onwards target 0 1 nodes)
  where
    go : (found : Reached) → Onwards 0 (0 + length nodes) found → break_value found ≡ Some i → i < length nodes
    go (Break k) h e = (let same : k ≡ i = cc in omega arith)
    go (Continue k) h e = absurd (none-some i e)

-- among the nodes of a whole tree
pub finds : (target : Rect) (t : SliceNode) → free_leaf target (tree_nodes t) ≡ position (is_free_leaf target) (tree_nodes t)
unfolding leaf_among
finds target t =
    ap (λ (l : List Node). break_value (leaf_among target 0 1 l)) (sym (append-nil (tree_nodes t)))
    ∙ ap break_value (among_tree target 0 0 t [] ∙ past_itself (leaf_from target 0 t)) ∙ found_is target t
  where
    past_itself : (found : Reached) → then_past found (λ next. leaf_among target next 0 []) ≡ found
    past_itself (Break i) = refl
    past_itself (Continue j) = refl
