-- One free rectangle, one free leaf, no piece.
use Rattle.plan.proofs.sheet_plan.Steps.{bare}
use Rattle.plan.proofs.sheet_plan.bare_board.Goals as goal

pub returns : goal.returns
returns c = bare c.args.kerf_width c.args.stock _ _ c.requires c.open.ensures c.new_guide.ensures
