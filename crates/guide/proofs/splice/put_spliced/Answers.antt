-- The nodes behind are a patch further on, and the subtree goes before them.
use Rattle.std.proofs.Common.{refl, ap, ◌∙◌}
use Rattle.lists.specs.Parts.{patch}
use Rattle.guide.specs.Nodes.{subtree_nodes}
use Rattle.guide.proofs.splice.Splices.{moved_spliced}
use Rattle.guide.proofs.splice.put_spliced.Goals as goal

pub returns : goal.returns
returns c =
    c.put_subtree.ensures
    ∙ ap (λ l. patch l c.args.at (subtree_nodes c.args.subtree)) c.copy_within.ensures.after
    ∙ moved_spliced c.args.nodes.now (subtree_nodes c.args.subtree) c.args.end c.args.at _ c.requires.0 c.requires.1 c.requires.2 refl
