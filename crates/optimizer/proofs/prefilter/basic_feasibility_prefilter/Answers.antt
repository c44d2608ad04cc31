-- `prefilter::basic_feasibility_prefilter` meets its contract: by its two tests.
use Rattle.optimizer.proofs.prefilter.Tests.{boards_held, panels_held, refused_15, refused_16, passed}
use Rattle.optimizer.proofs.prefilter.basic_feasibility_prefilter.Goals as goal

pub returns-then-not-all_fit : goal.returns-then-not-all_fit
returns-then-not-all_fit c = refused_15 c.args.inst.now c.stock-stock.ensures.value c.cuts-cuts.ensures.value c.all_fit.ensures c.if-not-all_fit.true

pub total_stock_area-requires : goal.total_stock_area-requires
total_stock_area-requires c = rw c.stock-stock.ensures.value (boards_held c.args.inst.now c.stock-stock.ensures.sound.ranged)

pub total_cut_area-requires : goal.total_cut_area-requires
total_cut_area-requires c = rw c.cuts-cuts.ensures.value (panels_held c.args.inst.now c.stock-stock.ensures.sound.ranged)

pub returns-then-total_stock_area-total_cut_area :
    goal.returns-then-total_stock_area-total_cut_area
returns-then-total_stock_area-total_cut_area c =
    refused_16 c.args.inst.now c.stock-stock.ensures.value c.cuts-cuts.ensures.value c.all_fit.ensures c.if-not-all_fit.false c.total_stock_area.ensures c.total_cut_area.ensures c.if-total_stock_area-total_cut_area.true

pub returns : goal.returns
returns c =
    passed c.args.inst.now c.stock-stock.ensures.value c.cuts-cuts.ensures.value c.all_fit.ensures c.if-not-all_fit.false c.total_stock_area.ensures c.total_cut_area.ensures c.if-total_stock_area-total_cut_area.false
