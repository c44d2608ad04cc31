-- `refusals::first_that_applies` meets its contract: no check before the present one applies.
use mathlib.Core.Path.{sym, ◌∙◌}
use borrow.Author.Rules.{rules}
use Rattle.project.proofs.refusals.Checks.{check_passes}
use Rattle.project.proofs.refusals.first_that_applies.Goals as goal

pub loop-check-preserved : goal.loop-check-preserved
loop-check-preserved c = sym (check_passes c.args.checks.now c.loop-check.check-index (search rules) (search rules)) ∙ c.loop-check.invariant
