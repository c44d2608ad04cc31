-- `evaluation::score` meets its contract: each sum is that of the sheets' areas.
use Prim.Native.Nat.{◌-◌}
use native.Mathlib.Omega.{arith}
use mathlib.Core.Path.{ap₂, ◌∙◌}
use Rattle.candidate.proofs.evaluation.Scored.{used_most, boards_most, cut_most, score_words}
use Rattle.candidate.proofs.evaluation.score.Goals as goal

pub used_stock_area-used-requires : goal.used_stock_area-used-requires
used_stock_area-used-requires c = omega (arith, used_most c.args.inst.now c.args.c.now c.stock-sound.ensures.sound c.requires _ (c.as_slice-sheets.ensures.value ∙ c.sheet_areas-areas.ensures))

pub placed_cut_area-cut-requires : goal.placed_cut_area-cut-requires
placed_cut_area-cut-requires c = omega (arith, used_most c.args.inst.now c.args.c.now c.stock-sound.ensures.sound c.requires _ (c.as_slice-sheets.ensures.value ∙ c.sheet_areas-areas.ensures), cut_most c.args.inst.now c.args.c.now c.stock-sound.ensures.sound c.requires _ (c.as_slice-sheets.ensures.value ∙ c.sheet_areas-areas.ensures))

pub overflow_sub-result : goal.overflow_sub-result
overflow_sub-result c = omega (arith, c.placed_cut_area-cut.ensures, c.used_stock_area-used.ensures, cut_most c.args.inst.now c.args.c.now c.stock-sound.ensures.sound c.requires _ (c.as_slice-sheets.ensures.value ∙ c.sheet_areas-areas.ensures))

pub candidate_fitness-requires : goal.candidate_fitness-requires
candidate_fitness-requires c = omega (arith, boards_most c.args.inst.now c.args.c.now c.stock-sound.ensures.sound c.requires _ (c.as_slice-sheets.ensures.value ∙ c.sheet_areas-areas.ensures))

pub returns : goal.returns
returns c = score_words c.args.inst.now c.args.c.now c.stock-sound.ensures.sound c.requires _ (c.as_slice-sheets.ensures.value ∙ c.sheet_areas-areas.ensures) _ _ (ap₂ ◌-◌ c.used_stock_area-used.ensures c.placed_cut_area-cut.ensures) c.candidate_fitness.ensures
