-- Children come after their parent, so that the node count minus the number falls.
use Rattle.std.proofs.Common.{◌-◌, length}
use Rattle.guide.proofs.free_leaf.+free_leaf_from.Given as goal

abbrev pub decreases-free_leaf_from : goal.decreases-free_leaf_from
decreases-free_leaf_from l = length l.nodes.now - l.at
