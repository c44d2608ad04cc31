-- The nearest f64.
use Rattle.model.specs.Fitness.{weight}
use Rattle.candidate.proofs.fitness.area_as_fitness_weight.Goals as goal

pub returns : goal.returns
unfolding weight
returns c = c.nearest_u64_to_f64.ensures
