-- The definition leaves the lent memory as the table says, proved by computation.
use Rattle.std.specs.Prelude.{◌≡◌, refl, map}
use Rattle.model.specs.Evaluate.{evaluate}
use Rattle.model.specs.FileOf.{file}
use Rattle.model.specs.Outcome.{outcome}
use Rattle.model.specs.Endings.{found_in_workspace, found_in_plan, left_by, endings}

pub endings_left : map (λ e. outcome e.project (found_in_workspace e.workspace) (found_in_plan e.plan)) endings ≡ map left_by endings
unfolding evaluate file left_by endings
endings_left = refl
