-- `shuffle::shuffle_cut_order` meets its contract.
use Rattle.std.proofs.Common.{◌+◌, ◌-◌, ◌∙◌, sym, arith}
use Rattle.lists.specs.Base.{swap}
use Rattle.model.specs.TinyPrng.{next_state}
use Rattle.generator.proofs.shuffle.Shuffle.{index_below, turn, over, whole}
use Rattle.generator.proofs.shuffle.shuffle_cut_order.Goals as goal

pub loop-index-init : goal.loop-index-init
loop-index-init c = rw c.new-prng.ensures (whole _ _)

pub swap-requires-clause-b_in_bounds : goal.swap-requires-clause-b_in_bounds
swap-requires-clause-b_in_bounds c =
    let below = index_below (next_state c.loop-index.prng) (c.loop-index.index - 1 + 1) (omega arith) in
    omega (arith, below, c.next_index.ensures.value)

pub loop-index-preserved : goal.loop-index-preserved
unfolding swap
loop-index-preserved c =
    let turned = turn c.loop-index.index c.loop-index.prng c.loop-index.order c.loop-index-test.true in
    rw (c.next_index.ensures.state, c.swap.ensures.by_index.3 0, c.next_index.ensures.value) (sym turned ∙ c.loop-index.invariant)

pub returns : goal.returns
returns c = sym (over c.loop-index.index c.loop-index.prng c.loop-index.order c.loop-index-test.false) ∙ c.loop-index.invariant
