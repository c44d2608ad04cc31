-- One node, the free leaf of the board.
use Rattle.guide.proofs.Guides.{new_is}
use Rattle.guide.proofs.new_guide.Goals as goal

pub returns : goal.returns
returns g c = new_is c.args.board _ _ c.clear.ensures c.push.ensures.items
