-- `placing::open_boards` meets its contract.
use Prim.Native.Nat.{◌<◌}
use native.Mathlib.Omega.{arith}
use mathlib.Core.Path.{◌∙◌}
use lib.ListN.{length, get_or, take, length-set}
use Rattle.lists.proofs.Every.{all_get}
use Rattle.lists.proofs.Arrays.{take_next}
use Rattle.candidate.proofs.placing.Opening.{opens_more}
use Rattle.candidate.proofs.placing.open_boards.Goals as goal

pub loop-board-preserved : goal.loop-board-preserved
loop-board-preserved c =
    let board = get_or c.args.boards.now c.loop-board.board-index 0 in
    let known = all_get (λ b. b < length c.args.inst.now.stock) c.args.boards.now c.loop-board.board-index 0 c.requires c.loop-board-test.true in
    let inside : board < length c.loop-board.free = omega (arith, known, c.board.ensures.sound.ranged.few_boards, c.loop-board.invariant.0) in
    rw (take_next c.args.boards.now c.loop-board.board-index 0 c.loop-board-test.true, c.open_board.ensures, c.board.ensures.value) (
      length-set c.loop-board.free board _ ∙ c.loop-board.invariant.0,
      opens_more c.args.inst.now (take c.loop-board.board-index c.args.boards.now) c.args.free.now c.loop-board.free board inside c.loop-board.invariant.1,
    )
