-- `search::winner` meets its contract: what is left of the rounds gives what all of them give.
use native.Mathlib.Omega.{arith}
use mathlib.Core.Path.{◌≡◌, sym, ap, ◌∙◌, subst}
use mathlib.Core.Option.{Option}
use Rattle.model.specs.Candidate.{Candidate}
use Rattle.model.specs.Search.{initial_population, run_generations}
use Rattle.search.specs.Numbers.{numbers_of}
use Rattle.search.specs.Populations.{population_in}
use Rattle.search.proofs.stored.Populations.{only_wider, only_then}
use Rattle.search.specs.Ranks.{Selected}
use Rattle.search.proofs.Rounds.{run_step, run_all, winner_is, behind_kept}
use Rattle.search.proofs.winner.Goals as goal

pub loop-round-preserved : goal.loop-round-preserved
loop-round-preserved c =
    let inst = c.args.inst.now in
    let first = population_in inst c.initial_population-count.new.ws 0 c.initial_population-count.result in
    run_step inst c.default_heuristic-h.result c.args.n.survivors c.args.n.generations first c.initial_population-count.new.ws c.loop-round._round c.loop-round.slots.base c.loop-round.slots.count c.loop-round.ws c.loop-round.invariant
    c.next_generation-slots.new.ws c.next_generation-slots.result.base c.next_generation-slots.result.count c.next_generation-slots.ensures.1 c.loop-round-test.true c.requires.2
    c.next_generation-slots.ensures.0 c.next_generation-slots.ensures.2

pub returns : goal.returns
unfolding numbers_of
returns c =
    let inst = c.args.inst.now in
    let n = numbers_of c.args.n in
    let rows = c.args.rows.now in
    let h = c.default_heuristic-h.result in
    let first = population_in inst c.initial_population-count.new.ws 0 c.initial_population-count.result in
    let last : population_in inst c.loop-round.ws c.loop-round.slots.base c.loop-round.slots.count ≡ run_generations inst h n.survivors n.generations (initial_population rows inst n) =
    run_all inst h c.args.n.survivors c.args.n.generations first c.initial_population-count.new.ws c.loop-round._round c.loop-round.slots.base c.loop-round.slots.count c.loop-round.ws c.loop-round.invariant c.loop-round-test.false
    ∙ ap (run_generations inst h n.survivors n.generations) c.initial_population-count.ensures.0.is
    in (
      subst (λ (o : Option Candidate). Selected inst o c.select_best_valid_candidate.result)
          (winner_is rows inst n h (population_in inst c.loop-round.ws c.loop-round.slots.base c.loop-round.slots.count) (sym c.default_heuristic-h.ensures) last) c.select_best_valid_candidate.ensures.is,
      behind_kept c.args.ws.now c.loop-round.ws
          (only_then 0 96 c.args.ws.now c.initial_population-count.new.ws c.loop-round.ws (only_wider 0 48 c.args.ws.now c.initial_population-count.new.ws c.initial_population-count.ensures.1 0 96 (omega arith) (omega arith)) c.loop-round.invariant.only),
    )
