-- `refusals::first_that_applies` meets its contract: no check before the present one applies.
use mathlib.Core.Path.{◌≡◌}
use lib.ListN.{drop}
use Rattle.project.specs.Checks.{first_given}
use Rattle.project.proofs.refusals.first_that_applies.Given as goal

abbrev pub invariant-loop-check : goal.invariant-loop-check
invariant-loop-check l = first_given (drop l.check-index l.checks) ≡ first_given l.checks
