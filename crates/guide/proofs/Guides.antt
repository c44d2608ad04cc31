-- A guide's nodes through each step of its sheet's making.
use Rattle.std.specs.Prelude.{Some, None, cond, position}
use Rattle.std.specs.Prelude as Language
use Rattle.std.proofs.lemmas.Option.{cond_some, none-some}
use borrow.Author.Tests.{ltb-true, ltb-false}
use lib.Dec.{ltb}
use mathlib.Core.Path.{◌≡◌, refl, sym, ap, ap₂, ◌∙◌, subst}
use mathlib.Core.Bool.{Bool, true, false}
use mathlib.Core.List.{List, [], ◌∷◌, ◌++◌, append_assoc}
use mathlib.Core.Option.{Option, none, some}
use Prim.Native.Nat.{ℕ, ◌+◌, ◌≤◌}
use native.Mathlib.Omega.{arith}
use lib.ListN.{length, drop, length-append}
use lib.Seq.{take_at, drop_at}
use Rattle.lists.specs.Base.{◌>>=◌}
use Rattle.model.specs.declared.Rect.{Rect}
use Rattle.model.specs.declared.Direction.{Direction}
use Rattle.model.specs.declared.CutInstance.{CutInstance}
use Rattle.model.specs.Guide.{SliceNode, leaf, free, insert_subtree, replace_free_leaf}
use Rattle.guide.specs.declared.subtree.Node.{Node}
use Rattle.guide.specs.declared.subtree.CutOff.{CutOff}
use Rattle.guide.specs.declared.subtree.Subtree.{Subtree}
use Rattle.guide.specs.Nodes.{around, subtree_nodes, subtree_of, guide_nodes, tree_nodes, InCorner}
use Rattle.guide.proofs.subtree.Trees.{guide_nodes_some, guide_nodes_none, tree_nodes_leaf}
use Rattle.guide.specs.Leaves.{is_free_leaf, leaf_among, free_leaf}
use Rattle.guide.specs.Splices.{spliced}
use Rattle.guide.specs.Guides.{split_guide, next_guide, replaced_at, leaf_replaced, next_nodes}
use Rattle.guide.proofs.subtree.Cuts.{subtree_is}
use Rattle.guide.proofs.free_leaf.Sizes.{size}
use Rattle.guide.proofs.free_leaf.Searches.{finds}
use Rattle.guide.proofs.Outcomes.{Spliced, first_of, outcome}

-- ---- a new guide

pub new_is : (board : Rect) (before after : List Node) → before ≡ [] → after ≡ before ++ (Node.Free board ∷ []) → after ≡ guide_nodes (some (leaf board free))
new_is board before after e f = f ∙ ap (λ (l : List Node). l ++ (Node.Free board ∷ [])) e ∙ sym (guide_nodes_some (leaf board free) ∙ tree_nodes_leaf board free)

-- ---- an insertion's subtree

around_length : (c : Language.Option CutOff) (nodes : List Node) → length nodes ≤ length (around c nodes) × length (around c nodes) ≤ length nodes + 2
around_length None nodes = (omega arith, omega arith)
around_length (Some c) nodes = (omega (arith, length-append nodes (c.remainder ∷ [])), omega (arith, length-append nodes (c.remainder ∷ [])))

pub subtree_most : (s : Subtree) → length (subtree_nodes s) ≤ 5
subtree_most s =
    let inner = around_length s.inner (s.piece ∷ []) in
    let outer = around_length s.outer (around s.inner (s.piece ∷ [])) in
    omega arith

subtree_some : (s : Subtree) → subtree_nodes s ≡ [] → ⊥
subtree_some s e =
    let inner = around_length s.inner (s.piece ∷ []) in
    let outer = around_length s.outer (around s.inner (s.piece ∷ [])) in
    omega (arith, ap length e)

-- ---- a free leaf replaced

some_at : (b : Bool) (k : ℕ) → cond b (Some k) None ≡ None → b ≡ false
some_at true k e = absurd (none-some k (sym e))
some_at false k e = refl

-- the node at a place given way to others
spliced_is : (front back others : List Node) (n : Node) (i : ℕ) → length front ≡ i → spliced (front ++ (n ∷ back)) i others ≡ front ++ (others ++ back)
spliced_is front back others n i e =
    ap₂ (λ (a b : List Node). a ++ (others ++ b)) (take_at front (n ∷ back) i e)
    (ap (drop (i + 1)) (sym (append_assoc front (n ∷ []) back)) ∙ drop_at (front ++ (n ∷ [])) back (i + 1) (omega (arith, e, length-append front (n ∷ []))))

module _ (nodes : List Node) (target : Rect) (t : SliceNode) (h : nodes ≡ guide_nodes (some t)) where
  place_of : free_leaf target nodes ≡ position (is_free_leaf target) (tree_nodes t)
  place_of = ap (free_leaf target) (h ∙ guide_nodes_some t) ∙ finds target t

  spliced_at : (i : ℕ) (node : SliceNode) → free_leaf target nodes ≡ Some i → Spliced target i node t
  spliced_at i node e =
      let first : ℕ = first_of target t in
      let p = cond_some (ltb first (size t)) first i (sym place_of ∙ e) in
      subst (λ (m : ℕ). Spliced target m node t) p.1 ((outcome target node t).found (ltb-true first (size t) p.0))

  replaced_none : (node : SliceNode) → free_leaf target nodes ≡ None → replace_free_leaf t target node ≡ none
  replaced_none node e =
      let first : ℕ = first_of target t in
      (outcome target node t).none_found (ltb-false first (size t) (some_at (ltb first (size t)) first (sym place_of ∙ e)))

  replaces : (node : SliceNode) (others : List Node) → others ≡ tree_nodes node → leaf_replaced target others nodes ≡ guide_nodes (replace_free_leaf t target node)
  replaces node others f = go (free_leaf target nodes) refl
    where
      go : (found : Language.Option ℕ) → free_leaf target nodes ≡ found → replaced_at found others nodes ≡ guide_nodes (replace_free_leaf t target node)
      go None e = sym (ap guide_nodes (replaced_none node e) ∙ guide_nodes_none)
      go (Some i) e =
          let p = spliced_at i node e in
          ap (λ (l : List Node). spliced l i others) (h ∙ guide_nodes_some t ∙ p.was)
          ∙ spliced_is p.front p.back others (Node.Free target) i p.place
          ∙ ap (λ (l : List Node). p.front ++ (l ++ p.back)) f
          ∙ sym (ap guide_nodes p.made ∙ guide_nodes_some p.after ∙ p.is)

no_leaf : (target : Rect) (others nodes : List Node) → nodes ≡ [] → leaf_replaced target others nodes ≡ []
unfolding leaf_among
no_leaf target others nodes e = ap (leaf_replaced target others) e

-- ---- the step of an insertion: what it makes of a guide's nodes is what the definition makes of the guide

module _ (d : Direction) (kerf : ℕ) (f p : Rect) (c : CutInstance) (corner : InCorner f p) where
  split : (nodes : List Node) (g : Option SliceNode) → nodes ≡ guide_nodes g → next_nodes false d kerf f p c nodes ≡ guide_nodes (split_guide d kerf f p c g)
  unfolding split_guide
  split nodes none h = no_leaf f _ nodes (h ∙ guide_nodes_none) ∙ sym guide_nodes_none
  split nodes (some t) h = go (insert_subtree d kerf f p c) (subtree_is kerf f p corner d c)
    where
      s : Subtree
      s = subtree_of d kerf f p c

      go : (o : Option SliceNode) → subtree_nodes s ≡ guide_nodes o → leaf_replaced f (subtree_nodes s) nodes ≡ guide_nodes (o >>= λ subtree. replace_free_leaf t f subtree)
      go none e = absurd (subtree_some s (e ∙ guide_nodes_none))
      go (some node) e = replaces nodes f t h node (subtree_nodes s) (e ∙ guide_nodes_some node)

  pub next_nodes_are : (merged : Bool) (nodes : List Node) (g : Option SliceNode) → nodes ≡ guide_nodes g → next_nodes merged d kerf f p c nodes ≡ guide_nodes (next_guide merged d kerf f p c g)
  next_nodes_are true nodes g h = sym guide_nodes_none
  next_nodes_are false nodes g h = split nodes g h
