-- A store is a patch of one node.
use Rattle.std.proofs.Common.{◌<◌, length}
use native.Mathlib.Omega.{arith}
use Rattle.lists.proofs.Parts.{set_patch}
use Rattle.guide.proofs.splice.put_after.Goals as goal

pub returns-clause-nodes : goal.returns-clause-nodes
returns-clause-nodes c = rw c.in-Some.is (set_patch c.args.nodes.now c.args.at c.in-Some.c.remainder (stored c))
  where
    stored : (c : goal.In-Some) → c.args.at < length c.args.nodes.now
    stored c = omega (arith, rw c.in-Some.is at c.requires)
