-- `instances::sorted` meets its contract.
use native.Mathlib.Omega.{arith}
use mathlib.Core.Path.{ap, ◌∙◌}
use mathlib.Core.List.{map}
use lib.ListN.{get_or}
use borrow.Author.Rules.{rules}
use Rattle.project.specs.Problem.{no_stock}
use Rattle.project.proofs.instances.Made.{number_below, few_before, boards_more, boards_all}
use Rattle.project.proofs.instances.sorted.Goals as goal

pub loop-number-init : goal.loop-number-init
loop-number-init c = c.new-stock.ensures

pub bounds-raw-number : goal.bounds-raw-number
bounds-raw-number c =
    number_below c.args.raw.now _ (c.as_slice-number-items.ensures.value ∙ c.sorted_stock_order-order.ensures.0) c.loop-number.number-index c.loop-number-test.true

pub push-requires : goal.push-requires
push-requires c = (
  search rules,
  few_before c.args.raw.now _ (c.as_slice-number-items.ensures.value ∙ c.sorted_stock_order-order.ensures.0) c.loop-number.number-index c.loop-number-test.true c.requires _ c.loop-number.invariant,
)

pub loop-number-preserved : goal.loop-number-preserved
loop-number-preserved c = c.push.ensures.items ∙ boards_more c.args.raw.now _ c.loop-number.number-index c.loop-number-test.true _ c.loop-number.invariant

pub returns : goal.returns
returns c =
    boards_all c.args.raw.now _ c.loop-number.number-index (omega arith) _ c.loop-number.invariant
    ∙ ap (map (λ k. get_or c.args.raw.now k no_stock)) c.as_slice-number-items.ensures.value
    ∙ c.sorted_stock_order-order.ensures.1
