-- The size of a tree, by its two parts.
use Prim.Native.Nat.{ℕ, suc, ◌+◌}
use mathlib.Core.Path.{◌≡◌, ap, ◌∙◌}
use lib.ListN.{length, length-append}
use Rattle.model.specs.declared.Rect.{Rect}
use Rattle.model.specs.Guide.{GuideCut, LeafKind, SliceNode, cut, leaf}
use Rattle.guide.specs.Nodes.{tree_nodes}
use Rattle.guide.proofs.subtree.Trees.{tree_nodes_cut, tree_nodes_leaf}

abbrev pub size : SliceNode → ℕ
size tree = length (tree_nodes tree)

pub size_cut : (c : GuideCut) (a b : SliceNode) → size (cut c a b) ≡ suc (size a + size b)
size_cut c a b = ap length (tree_nodes_cut c a b) ∙ ap suc (length-append (tree_nodes a) (tree_nodes b))

pub size_leaf : (r : Rect) (k : LeafKind) → size (leaf r k) ≡ 1
size_leaf r k = ap length (tree_nodes_leaf r k)
