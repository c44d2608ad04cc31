-- `merging::merges` meets its contract.
use native.Mathlib.Omega.{arith}
use mathlib.Core.Path.{sym, ◌∙◌}
use Rattle.lists.proofs.Every.{all_get, all_take}
use Rattle.model.specs.Types.{no_rect}
use Rattle.model.specs.Merge.{merges_any}
use Rattle.sheet.specs.Bounds.{Small}
use Rattle.sheet.proofs.merging.Touching.{next_apart, next_merges, all_apart}
use Rattle.sheet.proofs.merging.merges.Goals as goal

pub touches-requires : goal.touches-requires
touches-requires c = (
  all_take Small c.loop-right.right c.args.free.now c.requires.small,
  all_get Small c.args.free.now c.loop-right.right no_rect c.requires.small c.loop-right-test.true,
  c.requires.thin,
)

pub loop-right-preserved : goal.loop-right-preserved
loop-right-preserved c = next_apart c.args.kerf_width c.args.free.now c.loop-right.right c.loop-right-test.true c.loop-right.invariant (sym c.touches.ensures ∙ c.if-touches.false)

pub returns-then-touches : goal.returns-then-touches
unfolding merges_any
returns-then-touches c = sym (next_merges c.args.kerf_width c.args.free.now c.loop-right.right c.loop-right-test.true (sym c.touches.ensures ∙ c.if-touches.true))

pub returns : goal.returns
unfolding merges_any
returns c = sym (all_apart c.args.kerf_width c.args.free.now c.loop-right.right (omega arith) c.loop-right.invariant)
