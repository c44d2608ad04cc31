-- The nodes of a guide in preorder, and those of an insertion's subtree.
use Rattle.std.specs.Prelude.{ℕ, ◌+◌, ◌≤◌, ◌<◌, List, [], ◌∷◌, ◌++◌, map, Option, None, Some}
use Rattle.std.proofs.Math.Option as Defined
use Rattle.model.specs.declared.Rect.{Rect}
use Rattle.model.specs.declared.Direction.{Direction}
use Rattle.model.specs.Refusal.{most_side}
use Rattle.model.specs.Types.{no_rect, rect, cut_key}
use Rattle.model.specs.Split.{bottom_remainder, right_remainder}
use Rattle.model.specs.declared.CutInstance.{CutInstance}
use Rattle.model.specs.Guide.{SliceNode, cut, leaf, free, cut_piece}
use Rattle.model.specs.Plan.{node_words, preorder, nodes_of}
use Rattle.guide.specs.declared.subtree.Node.{Node}
use Rattle.guide.specs.declared.subtree.Node.TheVariants as node
use Rattle.guide.specs.declared.subtree.CutOff.{CutOff}
use Rattle.guide.specs.declared.subtree.Subtree.{Subtree}

-- ---- nodes

-- a tree's root, without what is below it
abbrev pub node_of : SliceNode → Node
node_of (cut c first second) = node.Cut c.work_rect c.orientation c.offset c.kerf_width
node_of (leaf r free) = node.Free r
node_of (leaf r (cut_piece key)) = node.Piece r key

abbrev pub tree_nodes : SliceNode → List Node
tree_nodes tree = map node_of (preorder tree)

abbrev pub guide_nodes : Defined.Option SliceNode → List Node
guide_nodes guide = map node_of (nodes_of guide)

-- a tree with this root; what is below a cut has no part in the cut's words
abbrev pub slice_node : Node → SliceNode
slice_node (node.Cut work orientation offset kerf) =
    cut (record { work_rect = work; orientation = orientation; offset = offset; kerf_width = kerf }) (leaf no_rect free) (leaf no_rect free)
slice_node (node.Piece r key) = leaf r (cut_piece key)
slice_node (node.Free r) = leaf r free

abbrev pub words_of : Node → List ℕ
words_of n = node_words (slice_node n)

-- ---- an insertion

-- nodes between a cut and the remainder that it takes off from them
abbrev pub around : Option CutOff → List Node → List Node
around None nodes = nodes
around (Some c) nodes = c.cut ∷ (nodes ++ (c.remainder ∷ []))

abbrev pub subtree_nodes : Subtree → List Node
subtree_nodes s = around s.outer (around s.inner (s.piece ∷ []))

-- a piece for which a free rectangle has room at its corner, on a board of the rack
pub record InCorner (free_rect placed : Rect) : Type 0 where
  pub wide : 0 < placed.width
  pub long : 0 < placed.length
  pub width : placed.width ≤ free_rect.width
  pub length : placed.length ≤ free_rect.length
  pub right : free_rect.x + free_rect.width ≤ most_side
  pub bottom : free_rect.y + free_rect.length ≤ most_side

-- a remainder cut off from the work rectangle, where there is one
abbrev pub cut_off_of : Rect → Direction → ℕ → ℕ → List Rect → Option CutOff
cut_off_of work orientation offset kerf [] = None
cut_off_of work orientation offset kerf (r ∷ rs) = Some (record { cut = node.Cut work orientation offset kerf; remainder = node.Free r })

-- an insertion's subtree: the outer cut takes off the remainder that has the whole side
unfoldable pub subtree_of : Direction → ℕ → Rect → Rect → CutInstance → Subtree
subtree_of Direction.Horizontal kerf free_rect placed c =
    record {
      outer = cut_off_of free_rect Direction.Horizontal placed.length kerf (bottom_remainder kerf free_rect placed free_rect.width);
      inner = cut_off_of (rect free_rect.x free_rect.y free_rect.width placed.length) Direction.Vertical placed.width kerf (right_remainder kerf free_rect placed placed.length);
      piece = node.Piece placed (cut_key c);
    }
subtree_of Direction.Vertical kerf free_rect placed c =
    record {
      outer = cut_off_of free_rect Direction.Vertical placed.width kerf (right_remainder kerf free_rect placed free_rect.length);
      inner = cut_off_of (rect free_rect.x free_rect.y placed.width free_rect.length) Direction.Horizontal placed.length kerf (bottom_remainder kerf free_rect placed placed.width);
      piece = node.Piece placed (cut_key c);
    }
