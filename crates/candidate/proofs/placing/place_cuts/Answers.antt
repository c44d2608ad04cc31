-- `placing::place_cuts` meets its contract.
use Rattle.candidate.proofs.placing.InOrder.{placing_next, placing_done}
use Rattle.candidate.proofs.placing.place_cuts.Goals as goal

pub loop-cut-preserved : goal.loop-cut-preserved
loop-cut-preserved c =
    placing_next c.args.inst.now c.args.h c.args.c.now c.args.order.now c.loop-cut.free c.loop-cut.c c.loop-cut.cut-index c.loop-cut.invariant
    c.loop-cut-test.true c.place_cut_first_fit.new.free c.place_cut_first_fit.new.c c.place_cut_first_fit.ensures

pub returns : goal.returns
returns c = placing_done c.args.inst.now c.args.h c.args.c.now c.args.order.now c.loop-cut.free c.loop-cut.c c.loop-cut.cut-index c.loop-cut.invariant c.loop-cut-test.false
