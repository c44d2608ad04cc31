-- `optimizer::search_plan` meets its contract: what the prefilter refuses first.
use mathlib.Core.Path.{refl, sym}
use Rattle.std.proofs.lemmas.Result.{err_from_is_err_and}
use Rattle.model.specs.Search.{search_numbers, heuristic_variants}
use Rattle.optimizer.proofs.Ends.{searched_refused}
use Rattle.optimizer.proofs.search_plan.Goals as goal

pub returns-in_err-basic_feasibility_prefilter : goal.returns-in_err-basic_feasibility_prefilter
returns-in_err-basic_feasibility_prefilter c =
    let exit = err_from_is_err_and c.from_residual.result c.from_residual.ensures.1 in
    rw (exit.1, exit.2)
    (record { ends = (searched_refused heuristic_variants c.args.inst.now (search_numbers c.args.effort) _ (sym c.in_err-basic_feasibility_prefilter.ensures), refl) }, refl)
