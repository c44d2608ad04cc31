-- `fitness::fitness` meets its contract.
use Rattle.std.proofs.Common.{◌∙◌}
use lib.Ieee.{of_bits}
use Rattle.candidate.proofs.fitness.Shares.{or_zero}
use Rattle.candidate.proofs.fitness.fitness.Goals as goal

pub returns : goal.returns
unfolding of_bits
returns c = c.unwrap_or.ensures ∙ or_zero c.candidate_fitness.result _ c.candidate_fitness.ensures
