-- `instances::push_instances` meets its contract: so many instances of the record stand behind those before.
use mathlib.Core.Path.{◌≡◌}
use mathlib.Core.List.{◌++◌, map}
use Rattle.lists.specs.Base.{range}
use Rattle.project.specs.Records.{record_of}
use Rattle.project.proofs.instances.push_instances.Given as goal

abbrev pub invariant-loop-n : goal.invariant-loop-n
invariant-loop-n g l = l.instances.items ≡ l.initial.instances.items ++ map (g.made (record_of l.p)) (range l.n)
