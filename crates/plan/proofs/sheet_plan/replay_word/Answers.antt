-- An insertion on another board passes by; one on the board finds its place, since the whole making does.
use mathlib.Core.Path.{sym, ap, ◌∙◌}
use Rattle.std.specs.Prelude.{None, Some}
use Rattle.model.specs.declared.StockInstance.{StockInstance}
use Rattle.project.specs.Problem.{cut_in}
use Rattle.plan.proofs.sheet_plan.Turns.{passed, ready, room_for, done}
use Rattle.plan.proofs.sheet_plan.replay_word.Goals as goal

pub returns-then-board_of-board : goal.returns-then-board_of-board
returns-then-board_of-board c =
    passed c.args.inst.now c.args.insertions.now c.args.board c.requires.0 c.args.i c.requires.1 c.args.free.now c.args.guide.now.items c.args.p c.requires.2
    (λ e. c.if-board_of-board.true (c.board_of.ensures ∙ e)) c.args.pieces.now

pub try_insert-requires : goal.try_insert-requires
try_insert-requires c =
    rw c.kerf_width-kerf_width.ensures.value
    (ready c.args.inst.now c.args.insertions.now c.args.board c.requires.0 c.args.i c.requires.1 c.args.free.now c.args.guide.now.items c.args.p c.requires.2
    c.board-s.ensures.sound.ranged (sym c.board_of.ensures ∙ c.if-board_of-board.false))

pub returns-in-None : goal.returns-in-None
returns-in-None c =
    absurd
    (room_for c.args.inst.now c.args.insertions.now c.args.board c.requires.0 c.args.i c.requires.1 c.args.free.now c.args.guide.now.items c.args.p c.requires.2
    c.board-s.ensures.sound.ranged (sym c.board_of.ensures ∙ c.if-board_of-board.false) _ _ _ (ap (λ (b : StockInstance). b.pattern) c.board-s.ensures.value)
    (c.cut-cut.ensures.value ∙ ap (cut_in c.args.inst.now) c.cut_of.ensures) c.heuristic_of-h.ensures c.try_insert.new.free None (rw c.kerf_width-kerf_width.ensures.value at c.in-None.ensures) c.args.pieces.now c.requires.3)

pub take_piece-requires : goal.take_piece-requires
take_piece-requires c =
    room_for c.args.inst.now c.args.insertions.now c.args.board c.requires.0 c.args.i c.requires.1 c.args.free.now c.args.guide.now.items c.args.p c.requires.2
    c.board-s.ensures.sound.ranged (sym c.board_of.ensures ∙ c.if-board_of-board.false) _ _ _ (ap (λ (b : StockInstance). b.pattern) c.board-s.ensures.value)
    (c.cut-cut.ensures.value ∙ ap (cut_in c.args.inst.now) c.cut_of.ensures) c.heuristic_of-h.ensures c.try_insert.new.free (Some c.in-Some.inserted) (rw c.kerf_width-kerf_width.ensures.value at c.in-Some.ensures)
    c.args.pieces.now c.requires.3

pub returns-in-Some : goal.returns-in-Some
returns-in-Some c =
    done c.args.inst.now c.args.insertions.now c.args.board c.requires.0 c.args.i c.requires.1 c.args.free.now c.args.guide.now.items c.args.p c.requires.2
    c.board-s.ensures.sound.ranged (sym c.board_of.ensures ∙ c.if-board_of-board.false) _ _ _ (ap (λ (b : StockInstance). b.pattern) c.board-s.ensures.value)
    (c.cut-cut.ensures.value ∙ ap (cut_in c.args.inst.now) c.cut_of.ensures) c.heuristic_of-h.ensures c.try_insert.new.free (Some c.in-Some.inserted) (rw c.kerf_width-kerf_width.ensures.value at c.in-Some.ensures)
    c.args.pieces.now _ _ _ (rw c.kerf_width-kerf_width.ensures.value at c.take_piece.ensures)
