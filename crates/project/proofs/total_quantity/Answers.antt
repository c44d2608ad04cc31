-- `project::total_quantity` meets its contract: the quantities so far and those of the records left are all of them.
use native.Mathlib.Omega.{arith}
use Rattle.project.proofs.Records.{total_next, total_none}
use borrow.Author.Rules.{rules}
use Rattle.project.proofs.total_quantity.Goals as goal

pub loop-i-preserved : goal.loop-i-preserved
loop-i-preserved c = (
  search rules,
  omega (arith, total_next c.args.body.now c.loop-i.i _ (search rules) c.record_at.ensures),
)

pub returns : goal.returns
returns c = omega (arith, total_none c.args.body.now c.loop-i.i (omega arith))
