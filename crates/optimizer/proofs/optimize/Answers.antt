-- `optimizer::optimize` meets its contract: each way out by its law.
use mathlib.Core.Path.{sym, ◌∙◌}
use Rattle.std.proofs.lemmas.Result.{err_from_is_err_and}
use Rattle.optimizer.proofs.Ends.{end_small, enough, end_file}
use Rattle.optimizer.proofs.optimize.Goals as goal

pub returns-then-is_too_small : goal.returns-then-is_too_small
returns-then-is_too_small c = end_small _ _ _ (sym c.is_too_small.ensures ∙ c.if-is_too_small.true)

pub returns-in_err-project : goal.returns-in_err-project
returns-in_err-project c =
    let room = enough c.args.workspace.now c.args.plan.now (sym c.is_too_small.ensures ∙ c.if-is_too_small.false) in
    let exit = err_from_is_err_and c.from_residual.result c.from_residual.ensures.1 in
    rw (exit.1, exit.2) (end_file c.args.file.now c.args.workspace.now c.args.plan.now room.0 room.1 _ (sym c.in_err-project.ensures.refused))

pub optimize_project-requires : goal.optimize_project-requires
optimize_project-requires c = enough c.args.workspace.now c.args.plan.now (sym c.is_too_small.ensures ∙ c.if-is_too_small.false)
