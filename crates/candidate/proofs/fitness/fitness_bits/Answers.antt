-- The fitness is no NaN, since it is a number from 0 to 1.
use Rattle.std.proofs.Common.{not, T, sym, subst}
use lib.Ieee.{Float, is_nan, of_bits}
use Rattle.candidate.proofs.fitness.Bounds.{fitness_number}
use Rattle.candidate.proofs.fitness.fitness_bits.Goals as goal

pub float_to_bits-result : goal.float_to_bits-result
unfolding of_bits
float_to_bits-result c =
    subst (λ (x : Float). T (not (is_nan x))) (sym c.fitness.ensures) (fitness_number c.args.sheets.now c.requires.1 c.requires.0)
