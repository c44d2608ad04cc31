-- Each branch is the one that the definition's test takes.
use Rattle.std.proofs.Common.{ap₂, eq-eqb, ne_eqb, rules}
use lib.Ieee.{binary64, div, of_bits}
use Rattle.candidate.specs.Areas.{share_of}
use Rattle.candidate.proofs.fitness.sheet_fitness.Goals as goal

pub returns-then-sheet-eq0 : goal.returns-then-sheet-eq0
unfolding share_of of_bits
returns-then-sheet-eq0 c = simp (eq-eqb _ _ c.if-sheet-eq0.true)

pub returns : goal.returns
unfolding share_of
returns c = simp (ne_eqb c.args.sheet.board 0 (search rules)) (ap₂ (div binary64) c.area_as_fitness_weight.ensures c.area_as_fitness_weight-2.ensures)
