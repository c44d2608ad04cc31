-- `refusals::check_whole` meets its contract.
use mathlib.Core.Path.{ap, ◌∙◌}
use Rattle.model.specs.Project.{project_of}
use Rattle.model.specs.Refusal.{total_quantity}
use Rattle.project.proofs.refusals.Checks.{next_check, no_checks}
use Rattle.project.proofs.refusals.Whole.{cuts_empty, whole_empty, whole_rows}
use Rattle.project.proofs.refusals.check_whole.Goals as goal

pub returns-then-record_count-eq0 : goal.returns-then-record_count-eq0
returns-then-record_count-eq0 c = whole_empty (project_of c.args.file.now) _ (cuts_empty _ _ _ c.cuts_body.ensures.read c.record_count.ensures) c.if-record_count-eq0.true

pub returns : goal.returns
returns c =
    c.first_that_applies.ensures
    ∙ next_check _ _ _ _ _ c.then_some.ensures (next_check _ _ _ _ _ c.then_some-2.ensures no_checks)
    ∙ whole_rows (project_of c.args.file.now) _ (cuts_empty _ _ _ c.cuts_body.ensures.read c.record_count.ensures) c.if-record_count-eq0.false
    _ _ (c.total_quantity-stock.ensures ∙ ap total_quantity c.stock_body.ensures.read) c.layout_code-layout.ensures
