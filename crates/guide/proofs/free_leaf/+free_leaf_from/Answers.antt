-- Past the nodes, behind a cut's first and second child, and at a leaf.
use Rattle.std.proofs.Common.{rules, sym, ltb-true}
use native.Mathlib.Omega.{arith}
use Rattle.guide.proofs.free_leaf.Searches.{past_is_behind, ends_past, ends_first, ends_second, ends_at, ends_behind}
use Rattle.guide.proofs.free_leaf.+free_leaf_from.Goals as goal

pub free_leaf_from-requires-in-Cut : goal.free_leaf_from-requires-in-Cut
free_leaf_from-requires-in-Cut t c =
    let further = past_is_behind c.args.nodes.now c.args.target _ _ c.in_ok-second.ensures in
    let inside = ltb-true _ _ (sym c.in-Some.ensures.lookup.0) in
    omega arith

pub returns-in_default : goal.returns-in_default
returns-in_default t c = ends_past c.args.nodes.now c.args.target c.args.at c.in_default.ensures.lookup.3

pub returns-in_err-second : goal.returns-in_err-second
returns-in_err-second t c =
    rw c.from_residual.ensures (ends_first c.args.nodes.now c.args.target c.args.at c.in-Some.node.now (ltb-true _ _ (sym c.in-Some.ensures.lookup.0)) c.in-Some.ensures.lookup.1 _ _ _ _ c.in-Cut.is _ c.in_err-second.ensures)

pub returns-in-Cut : goal.returns-in-Cut
returns-in-Cut t c =
    ends_second c.args.nodes.now c.args.target c.args.at c.in-Some.node.now (ltb-true _ _ (sym c.in-Some.ensures.lookup.0)) c.in-Some.ensures.lookup.1 _ _ _ _ c.in-Cut.is _ _ c.in_ok-second.ensures c.free_leaf_from-in-Cut.ensures

pub returns-then-is_free_leaf : goal.returns-then-is_free_leaf
returns-then-is_free_leaf t c = search (rules, ends_at)

pub returns-else-is_free_leaf : goal.returns-else-is_free_leaf
returns-else-is_free_leaf t c = search (rules, ends_behind)
