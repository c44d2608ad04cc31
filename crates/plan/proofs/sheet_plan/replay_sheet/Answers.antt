-- The invariant: the first i insertions are replayed.
use mathlib.Core.Path.{refl, ◌∙◌}
use Rattle.plan.proofs.sheet_plan.Making.{board_range}
use Rattle.plan.proofs.sheet_plan.Turns.{replay_start, replay_turn}
use Rattle.plan.proofs.sheet_plan.replay_sheet.Goals as goal

pub bare_board-p-requires : goal.bare_board-p-requires
bare_board-p-requires c =
    rw (c.kerf_width.ensures.value, c.board-s.ensures.value) (record { thin = c.board-s.ensures.sound.ranged.kerf; board = board_range c.args.inst.now c.args.insertions.now c.args.board c.requires.0 c.board-s.ensures.sound.ranged })

pub loop-i-init : goal.loop-i-init
loop-i-init c = (refl, replay_start c.args.inst.now c.args.insertions.now c.args.board c.requires.0 c.args.pieces.now _ _ _ _ c.board-s.ensures.value (rw c.kerf_width.ensures.value at c.bare_board-p.ensures))

pub loop-i-preserved : goal.loop-i-preserved
loop-i-preserved c = (
  c.replay_word-p.auto.pieces ∙ c.loop-i.invariant.0,
  replay_turn c.args.inst.now c.args.insertions.now c.args.board c.requires.0 c.args.pieces.now c.loop-i.i c.loop-i-test.true c.requires.1 c.loop-i.pieces c.loop-i.free c.loop-i.guide.items c.loop-i.p c.loop-i.invariant.1 _ _ _ _ c.replay_word-p.ensures,
)
