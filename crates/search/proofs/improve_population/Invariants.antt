-- `search::improve_population` meets its contract: the first k candidates are improved.
use Rattle.search.proofs.Passes.{ImprovedTo}
use Rattle.search.proofs.improve_population.Given as goal

abbrev pub invariant-loop-k : goal.invariant-loop-k
invariant-loop-k l = ImprovedTo l.inst l.h l.initial.ws l.slots.base l.k l.ws
