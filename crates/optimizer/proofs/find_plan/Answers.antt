-- `optimizer::find_plan` meets its contract: the winner's plan, or 17.
use native.Mathlib.Omega.{arith}
use mathlib.Core.Path.{refl, ap}
use lib.ListN.{length}
use Rattle.model.specs.Search.{heuristic_variants}
use Rattle.candidate.specs.Stands.{candidate_in}
use Rattle.plan.specs.Sheets.{candidate_plan}
use Rattle.optimizer.proofs.Ends.{few_numbers, winner_planned, winner_missing, behind_cleared}
use Rattle.optimizer.proofs.find_plan.Goals as goal

pub winner-requires : goal.winner-requires
unfolding heuristic_variants
winner-requires c =
    let few = few_numbers c.search_numbers-numbers.result c.args.effort c.search_numbers-numbers.ensures in
    (omega (arith, ap length c.heuristic_variants-rows.ensures), few.0, few.1, omega arith)

pub returns-in-None : goal.returns-in-None
returns-in-None c = (
  record { ends = (winner_missing c.args.inst.now _ _ c.args.effort c.heuristic_variants-rows.ensures c.search_numbers-numbers.ensures c.requires.2 c.in-None.ensures.0, refl) },
  behind_cleared _ _ c.winner.ensures.1,
)

pub returns-in-Some : goal.returns-in-Some
returns-in-Some c = (
  record {
    ends = (
      candidate_plan (candidate_in c.args.inst.now c.in-Some.c),
      winner_planned c.args.inst.now _ _ c.args.effort c.heuristic_variants-rows.ensures c.search_numbers-numbers.ensures c.requires.2 _ c.in-Some.ensures.0.is,
      c.write_plan.ensures.memory,
    );
  },
  behind_cleared _ _ c.winner.ensures.1,
)
