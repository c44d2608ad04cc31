-- `instances::instances` meets its contract: the instances so far and those of the records left are all of them.
use Rattle.project.proofs.instances.Made.{Making}
use Rattle.project.proofs.instances.instances.Given as goal

abbrev pub ghost-push_instances : goal.ghost-push_instances
ghost-push_instances g a = g.made

abbrev pub invariant-loop-i : goal.invariant-loop-i
invariant-loop-i g l = Making g.made l.body l.instances.items l.i
