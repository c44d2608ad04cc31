use Rattle.project.specs.Instances.{stock_instance}
use Rattle.project.proofs.instances.stock_instances.Given as goal

abbrev pub ghost-instances : goal.ghost-instances
ghost-instances a = stock_instance
