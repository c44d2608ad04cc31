-- `ProblemInstance::cut` meets its contract.
use native.Mathlib.Omega.{arith}
use Rattle.project.proofs.problem.ProblemInstance.cut.Goals as goal

pub offset_bounds-cuts-place : goal.offset_bounds-cuts-place
offset_bounds-cuts-place c = omega (arith, c.cuts-cuts.ensures.sound.ranged.few_panels, c.requires)
