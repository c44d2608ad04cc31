-- `search::initial_population` meets its contract: the candidates of the first k seeds are stored.
use Rattle.search.specs.Numbers.{numbers_of}
use Rattle.search.proofs.Firsts.{StoredTo}
use Rattle.search.proofs.initial_population.Given as goal

abbrev pub invariant-loop-k : goal.invariant-loop-k
invariant-loop-k l = StoredTo l.rows l.inst (numbers_of l.n) l.initial.ws l.k l.ws
