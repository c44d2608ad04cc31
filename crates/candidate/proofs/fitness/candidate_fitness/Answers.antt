-- The loop's invariant: what is left, added to the two sums, gives the whole sums.
use Rattle.std.proofs.Common.{◌≡◌, ◌+◌, List, drop, ap, ◌∙◌, ap₂, arith}
use Rattle.std.proofs.Math.Option.{some}
use lib.Ieee.{Float, binary64, add, mul, div, of_bits}
use Rattle.model.specs.Fitness.{weight}
use Rattle.candidate.specs.declared.fitness.SheetAreas.{SheetAreas}
use Rattle.candidate.specs.Areas.{no_sheet, weighted_share, add_shares, board_areas}
use Rattle.candidate.proofs.fitness.Shares.{shares_step, shares_end, boards_step, boards_end, fitness_none, fitness_some}
use Rattle.candidate.proofs.fitness.candidate_fitness.Goals as goal

pub overflow_add-total : goal.overflow_add-total
overflow_add-total c = omega (arith, boards_step c.args.sheets.now c.loop-sheet.sheet-index no_sheet c.loop-sheet-test.true)

pub loop-sheet-preserved : goal.loop-sheet-preserved
unfolding weighted_share
loop-sheet-preserved c = record {
  total = omega (arith, boards_step c.args.sheets.now c.loop-sheet.sheet-index no_sheet c.loop-sheet-test.true);
  shares =
      ap₂ (λ (x y : Float). add_shares (add binary64 c.loop-sheet.weighted (mul binary64 x y)) (drop (c.loop-sheet.sheet-index + 1) c.args.sheets.now)) c.sheet_fitness.ensures c.area_as_fitness_weight.ensures
      ∙ shares_step c.args.sheets.now c.loop-sheet.sheet-index c.loop-sheet.weighted no_sheet c.loop-sheet-test.true
      ∙ c.loop-sheet.invariant.shares;
}

pub returns-then-total-eq0 : goal.returns-then-total-eq0
unfolding of_bits
returns-then-total-eq0 c = fitness_none c.args.sheets.now (omega (arith, boards_end c.args.sheets.now c.loop-sheet.sheet-index c.loop-sheet-test.false))

pub returns : goal.returns
returns c =
    let sheets : List SheetAreas = c.args.sheets.now in
    let whole : c.loop-sheet.total ≡ board_areas sheets = omega (arith, boards_end sheets c.loop-sheet.sheet-index c.loop-sheet-test.false) in
    ap some (ap₂ (div binary64) (shares_end sheets c.loop-sheet.sheet-index c.loop-sheet.weighted c.loop-sheet-test.false ∙ c.loop-sheet.invariant.shares) (c.area_as_fitness_weight-2.ensures ∙ ap weight whole))
    ∙ fitness_some sheets (λ e. c.if-total-eq0.false (whole ∙ e))
