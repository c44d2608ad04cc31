-- Five parts side by side, each where the one before it ends.
use Rattle.std.proofs.Common.{rules, refl, ◌∙◌}
use Rattle.guide.proofs.splice.Splices.{put_five}
use Rattle.guide.proofs.splice.put_subtree.Goals as goal

pub returns : goal.returns
returns c =
    put_five c.args.subtree c.args.nodes.now _ _ _ _ _ c.args.at _ _ _ c.requires
    c.put_before-inside.ensures.nodes c.put_before-inside.ensures.past c.put_before-piece.ensures.nodes c.put_before-piece.ensures.past refl
    c.put_after-outside.ensures.nodes c.put_after-outside.ensures.past c.put_after.ensures.nodes
    c.put_before-inside.auto.nodes (c.put_before-piece.auto.nodes ∙ c.put_before-inside.auto.nodes) (search rules)
