-- `merging::merge_free_rects` meets its contract.
use Rattle.std.proofs.Common.{sym, ◌∙◌, arith}
use Rattle.sheet.proofs.merging.Rounds.{right_within, falls, scannable, rounds_left, flag_on, unmerged}
use Rattle.sheet.proofs.merging.merge_free_rects.Goals as goal

pub swap_remove-requires : goal.swap_remove-requires
swap_remove-requires c = right_within c.args.kerf_width c.loop-pair.free _ (sym (rw c.as_slice-in-loop-pair.ensures.value at c.in-Some.ensures)) c.set.new.self c.set.ensures

pub loop-pair-smaller : goal.loop-pair-smaller
loop-pair-smaller c =
    omega (arith, falls c.args.kerf_width c.loop-pair.free _ (sym (rw c.as_slice-in-loop-pair.ensures.value at c.in-Some.ensures)) c.set.new.self c.swap_remove.new.self c.set.ensures c.swap_remove.ensures)

pub loop-pair-preserved : goal.loop-pair-preserved
loop-pair-preserved c =
    let found = sym (rw c.as_slice-in-loop-pair.ensures.value at c.in-Some.ensures) in (
      scannable c.args.kerf_width c.loop-pair.free _ found c.set.new.self c.swap_remove.new.self c.set.ensures c.swap_remove.ensures c.loop-pair.fresh c.loop-pair.invariant.0,
      rounds_left c.args.kerf_width c.loop-pair.free _ found c.set.new.self c.swap_remove.new.self c.set.ensures c.swap_remove.ensures ∙ c.loop-pair.invariant.1,
      sym (flag_on c.loop-pair.any c.args.kerf_width c.loop-pair.free _ found) ∙ c.loop-pair.invariant.2,
    )

pub returns-then-not-merges-clause-merged : goal.returns-then-not-merges-clause-merged
returns-then-not-merges-clause-merged c = unmerged c.args.kerf_width c.args.free.now (sym (rw c.as_slice.ensures.value at c.merges.ensures) ∙ c.if-not-merges.true)
