-- The invariant: the first j sheets are written.
use Prim.Native.Nat.{◌+◌, ◌-◌, ◌*◌}
use native.Mathlib.Omega.{arith}
use mathlib.Core.Path.{refl, ◌∙◌}
use borrow.Rule.Slice.PartMut.{same_len_mid}
use lib.ListN.{length}
use Rattle.plan.proofs.Rebuilding.{rebuildable}
use Rattle.plan.proofs.Entries.{writes_none}
use Rattle.plan.proofs.Turns.{ahead, turn, all_written}
use borrow.Author.Rules.{rules}
use Rattle.plan.proofs.write_sheets.Goals as goal

pub loop-j-init : goal.loop-j-init
loop-j-init c = (refl, rw c.new-areas.ensures (writes_none (4 + 2 * c.args.c.now.sheets) c.args.plan.now))

pub write_sheet-body-requires : goal.write_sheet-body-requires
write_sheet-body-requires c =
    rw c.as_slice-insertions.ensures.value
    (rebuildable c.args.inst.now c.requires.0.ranged c.args.c.now c.requires.1 c.loop-j.j c.loop-j-test.true, omega (arith, (ahead c.args.inst.now c.requires.0.ranged c.args.c.now c.requires.1 c.loop-j.j c.loop-j-test.true c.args.plan.now c.loop-j.plan c.requires.2 c.loop-j.at c.loop-j.areas.items c.loop-j.invariant.1), c.requires.2, c.loop-j.invariant.0))

pub overflow_cast-at : goal.overflow_cast-at
overflow_cast-at c =
    let most = (ahead c.args.inst.now c.requires.0.ranged c.args.c.now c.requires.1 c.loop-j.j c.loop-j-test.true c.args.plan.now c.loop-j.plan c.requires.2 c.loop-j.at c.loop-j.areas.items c.loop-j.invariant.1) in
    search rules

pub overflow_cast-body : goal.overflow_cast-body
overflow_cast-body c =
    let most = (ahead c.args.inst.now c.requires.0.ranged c.args.c.now c.requires.1 c.loop-j.j c.loop-j-test.true c.args.plan.now c.loop-j.plan c.requires.2 c.loop-j.at c.loop-j.areas.items c.loop-j.invariant.1) in
    search rules

pub loop-j-preserved : goal.loop-j-preserved
loop-j-preserved c = (
  c.put_words.auto.words ∙ same_len_mid c.loop-j.at (length c.loop-j.plan - c.loop-j.at) c.loop-j.plan _ c.write_sheet-body.auto.part ∙ c.loop-j.invariant.0,
  rw c.push.ensures.items (turn c.args.inst.now c.requires.0.ranged c.args.c.now c.requires.1 c.loop-j.j c.loop-j-test.true c.args.plan.now c.loop-j.plan c.requires.2 c.loop-j.at c.loop-j.areas.items c.loop-j.invariant.1 _ _ c.write_sheet-body.result (rw c.as_slice-insertions.ensures.value at c.write_sheet-body.ensures.written) c.put_words.ensures),
)

pub returns : goal.returns
returns c = all_written c.args.inst.now c.requires.0.ranged c.args.c.now c.requires.1 c.args.plan.now c.loop-j.plan c.loop-j.at c.loop-j.areas.items c.loop-j.j (omega arith) c.loop-j.invariant.1
