-- The lengths of a guide's cuts, by its nodes and in the definition.
use Rattle.std.specs.Prelude.{ℕ, map}
use Rattle.std.proofs.Math.Option.{Option}
use Rattle.lists.specs.Base.{sum}
use Rattle.model.specs.Guide.{SliceNode}
use Rattle.model.specs.Plan.{along_cut, nodes_of, saw_length}
use Rattle.guide.specs.declared.subtree.Node.{Node}
use Rattle.guide.specs.declared.subtree.Node.TheVariants as node

-- the length of the cut that a node is, if it is one
abbrev pub node_saw : Node → ℕ
node_saw (node.Cut work orientation offset kerf) = along_cut orientation work
node_saw (node.Piece r key) = 0
node_saw (node.Free r) = 0

-- all cuts' lengths
abbrev pub saw_of_guide : Option SliceNode → ℕ
saw_of_guide guide = sum (map saw_length (nodes_of guide))
