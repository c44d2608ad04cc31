-- The leaf found gives way to the subtree; where none is found, no nodes are left.
use Rattle.std.proofs.Common.{rules, sym, ap, ◌∙◌}
use Rattle.guide.proofs.free_leaf.Searches.{found_below}
use Rattle.guide.specs.Guides.{replaced_at}
use Rattle.guide.specs.Nodes.{subtree_nodes}
use Rattle.guide.proofs.replace_free_leaf.Goals as goal

pub splice-requires : goal.splice-requires
splice-requires g c =
    let found = rw c.as_slice.ensures.value at c.find_free_leaf.ensures in
    (search rules, (found_below c.args.guide.now.items c.args.target c.in-Some.at (sym found ∙ c.in-Some.is), c.requires))

pub returns-in-Some : goal.returns-in-Some
returns-in-Some g c =
    let found = rw c.as_slice.ensures.value at c.find_free_leaf.ensures in
    c.splice.ensures ∙ ap (λ o. replaced_at o (subtree_nodes c.args.subtree) c.args.guide.now.items) (sym (sym found ∙ c.in-Some.is))

pub returns-in-None : goal.returns-in-None
returns-in-None g c =
    let found = rw c.as_slice.ensures.value at c.find_free_leaf.ensures in
    (search rules) ∙ ap (λ o. replaced_at o (subtree_nodes c.args.subtree) c.args.guide.now.items) (sym (sym found ∙ c.in-None.is))
