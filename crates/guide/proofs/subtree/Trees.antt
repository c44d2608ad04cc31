-- The nodes of a tree, by its root and its two parts; and their words.
use Prim.Native.Nat.{ℕ}
use mathlib.Core.Path.{◌≡◌, refl, ap, ap₂}
use mathlib.Core.List.{List, [], ◌∷◌, ◌++◌, map}
use mathlib.Core.Option.{none, some}
use Rattle.std.proofs.lemmas.List.{map-append}
use Rattle.lists.specs.Base.{concat_map}
use Rattle.model.specs.declared.Rect.{Rect}
use Rattle.model.specs.Guide.{GuideCut, LeafKind, SliceNode, cut, leaf, free, cut_piece}
use Rattle.model.specs.Plan.{node_words, preorder, nodes_of}
use Rattle.guide.specs.declared.subtree.Node.{Node}
use Rattle.guide.specs.Nodes.{node_of, tree_nodes, guide_nodes, words_of}

pub tree_nodes_cut : (c : GuideCut) (a b : SliceNode) → tree_nodes (cut c a b) ≡ node_of (cut c a b) ∷ (tree_nodes a ++ tree_nodes b)
unfolding preorder
tree_nodes_cut c a b = ap (λ (l : List Node). node_of (cut c a b) ∷ l) (map-append node_of (preorder a) (preorder b))

pub tree_nodes_leaf : (r : Rect) (k : LeafKind) → tree_nodes (leaf r k) ≡ node_of (leaf r k) ∷ []
unfolding preorder
tree_nodes_leaf r k = refl

pub guide_nodes_some : (t : SliceNode) → guide_nodes (some t) ≡ tree_nodes t
unfolding nodes_of
guide_nodes_some t = refl

pub guide_nodes_none : guide_nodes none ≡ []
unfolding nodes_of
guide_nodes_none = refl

-- a node's words are the definition's
pub words_of_lem : (n : SliceNode) → words_of (node_of n) ≡ node_words n
unfolding node_words
words_of_lem (cut c a b) = refl
words_of_lem (leaf r free) = refl
words_of_lem (leaf r (cut_piece key)) = refl

pub nodes_words : (ns : List SliceNode) → concat_map words_of (map node_of ns) ≡ concat_map node_words ns
unfolding concat_map
nodes_words [] = refl
nodes_words (n ∷ ns) = ap₂ (λ (a b : List ℕ). a ++ b) (words_of_lem n) (nodes_words ns)
