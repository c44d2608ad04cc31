-- `placing::insert_all` meets its contract.
use Rattle.candidate.proofs.placing.Remaking.{remaking_none, remaking_board, remaking_cut, remaking_fillable, remaking_fails, remaking_next, remaking_done}
use Rattle.candidate.proofs.placing.insert_all.Goals as goal

pub loop-word-init : goal.loop-word-init
loop-word-init c = remaking_none _ _ _ c.told-free

pub insert_again-requires : goal.insert_again-requires
insert_again-requires c =
    let ranged = c.kerf_width-kerf_width.ensures.sound.ranged in
    rw c.kerf_width-kerf_width.ensures.value (
      remaking_fillable c.args.inst.now c.args.insertions.now c.args.free.now c.requires c.loop-word.free c.loop-word.word-index c.loop-word.invariant c.loop-word-test.true ranged,
      remaking_board c.args.inst.now c.args.insertions.now c.args.free.now c.requires c.loop-word.free c.loop-word.word-index c.loop-word.invariant c.loop-word-test.true ranged,
      remaking_cut c.args.inst.now c.args.insertions.now c.args.free.now c.requires c.loop-word.free c.loop-word.word-index c.loop-word.invariant c.loop-word-test.true ranged,
    )

pub returns-then-not-insert_again : goal.returns-then-not-insert_again
returns-then-not-insert_again c =
    remaking_fails c.args.inst.now c.args.insertions.now c.args.free.now c.requires c.loop-word.free c.loop-word.word-index c.loop-word.invariant c.loop-word-test.true
    c.kerf_width-kerf_width.ensures.sound.ranged c.insert_again.new.free c.insert_again.result (rw c.kerf_width-kerf_width.ensures.value at c.insert_again.ensures) c.if-not-insert_again.true

pub loop-word-preserved : goal.loop-word-preserved
loop-word-preserved c =
    remaking_next c.args.inst.now c.args.insertions.now c.args.free.now c.requires c.loop-word.free c.loop-word.word-index c.loop-word.invariant c.loop-word-test.true
    c.kerf_width-kerf_width.ensures.sound.ranged c.insert_again.new.free c.insert_again.result (rw c.kerf_width-kerf_width.ensures.value at c.insert_again.ensures) c.if-not-insert_again.false

pub returns : goal.returns
returns c = remaking_done c.args.inst.now c.args.insertions.now c.args.free.now c.loop-word.free c.loop-word.word-index c.loop-word.invariant c.loop-word-test.false
