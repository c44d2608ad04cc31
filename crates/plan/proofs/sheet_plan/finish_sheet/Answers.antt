-- Waste, nodes and the words before the pieces, each where the counts say.
use native.Mathlib.Omega.{arith}
use mathlib.Core.Path.{◌≡◌}
use Rattle.model.specs.Types.{stock_area}
use Rattle.plan.proofs.sheet_plan.finish_sheet.Goals as goal

pub put_waste-requires : goal.put_waste-requires
put_waste-requires c = omega (arith, c.requires.fits)

pub put_nodes-requires : goal.put_nodes-requires
put_nodes-requires c = omega (arith, c.requires.fits, c.put_waste.auto.plan)

pub saw_of-saw-requires : goal.saw_of-saw-requires
saw_of-saw-requires c = c.requires.sawable

pub used-share-requires : goal.used-share-requires
used-share-requires c =
    let board : c.area-area.result ≡ stock_area c.args.stock = c.area-area.ensures in
    (omega (arith, c.requires.positive), omega (arith, c.requires.share), omega (arith, c.requires.most))

pub put_head-requires : goal.put_head-requires
put_head-requires c = omega (arith, c.requires.fits, c.put_waste.auto.plan, c.put_nodes.auto.plan)

pub returns : goal.returns
returns c =
    let board : c.area-area.result ≡ stock_area c.args.stock = c.area-area.ensures in
    record {
      words = rw (c.put_head.ensures, c.put_nodes.ensures, c.put_waste.ensures, c.saw_of-saw.ensures, c.used-share.ensures, board);
      size = omega arith;
      areas = rw board;
    }
