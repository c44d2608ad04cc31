-- `instances::instances` meets its contract.
use native.Mathlib.Omega.{arith}
use Prim.Native.Nat.{◌+◌, ◌≤◌}
use lib.ListN.{length}
use borrow.Author.Rules.{rules}
use Rattle.project.proofs.instances.Made.{making_room, making_step, making_end}
use Rattle.project.proofs.instances.instances.Goals as goal

pub push_instances-requires : goal.push_instances-requires
push_instances-requires g c κs within =
    let room : length c.loop-i.instances.items + c.record_at.result.quantity ≤ 64 =
    making_room g.made c.args.body.now c.loop-i.instances.items c.loop-i.i _ c.record_at.ensures (omega arith) (search rules) c.loop-i.invariant
    in search rules

pub loop-i-preserved : goal.loop-i-preserved
loop-i-preserved g c =
    making_step g.made c.args.body.now c.loop-i.instances.items _ c.loop-i.i _ c.record_at.ensures (omega arith) c.loop-i.invariant c.push_instances.ensures

pub returns : goal.returns
returns g c = making_end g.made c.args.body.now c.loop-i.instances.items c.loop-i.i (omega arith) c.loop-i.invariant
