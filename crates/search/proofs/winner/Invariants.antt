-- `search::winner` meets its contract: what is left of the rounds gives what all of them give.
use Rattle.search.specs.Populations.{population_in}
use Rattle.search.proofs.Rounds.{RunTo}
use Rattle.search.proofs.winner.Given as goal

abbrev pub invariant-loop-round : goal.invariant-loop-round
invariant-loop-round l =
    RunTo l.inst l.h l.n.survivors l.n.generations (population_in l.inst l.initial.ws 0 l.initial.slots.count) l.initial.ws l._round l.slots.base l.slots.count l.ws
