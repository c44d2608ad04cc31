-- `refusals::check_settings` meets its contract.
use mathlib.Core.Path.{◌∙◌}
use Rattle.model.specs.Project.{project_of}
use Rattle.project.proofs.refusals.Checks.{next_check, no_checks, settings_checked}
use Rattle.project.proofs.refusals.check_settings.Goals as goal

pub returns : goal.returns
returns c =
    c.first_that_applies.ensures
    ∙ next_check _ _ _ _ _ c.then_some.ensures (next_check _ _ _ _ _ c.then_some-2.ensures no_checks)
    ∙ settings_checked (project_of c.args.file.now) _ _ c.bad_settings.ensures c.kerf_width.ensures
