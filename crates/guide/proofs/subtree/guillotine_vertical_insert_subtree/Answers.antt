-- The two remainders, each with the cut that takes it off.
use Rattle.guide.specs.Nodes.{subtree_of}
use Rattle.guide.proofs.subtree.guillotine_vertical_insert_subtree.Goals as goal

pub returns : goal.returns
unfolding subtree_of
returns c = cc
