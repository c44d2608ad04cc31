-- `ProblemInstance::board` meets its contract.
use native.Mathlib.Omega.{arith}
use Rattle.project.proofs.problem.ProblemInstance.board.Goals as goal

pub offset_bounds-stock-place : goal.offset_bounds-stock-place
offset_bounds-stock-place c = omega (arith, c.stock-stock.ensures.sound.ranged.few_boards, c.requires)
