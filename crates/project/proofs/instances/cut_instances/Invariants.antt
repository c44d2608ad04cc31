use Rattle.project.specs.Instances.{cut_instance}
use Rattle.project.proofs.instances.cut_instances.Given as goal

abbrev pub ghost-instances : goal.ghost-instances
ghost-instances a = cut_instance
