-- `search::crossover_population` meets its contract: the pairs before i have had their children.
use Prim.Native.Nat.{◌*◌}
use Rattle.search.proofs.Pushing.{CrossedTo}
use Rattle.search.proofs.crossover_population.Given as goal

abbrev pub invariant-loop-pair : goal.invariant-loop-pair
invariant-loop-pair l = CrossedTo l.inst l.h l.initial.ws l.slots.base l.slots.count (2 * l.pair) l.size l.ws
