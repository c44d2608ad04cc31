-- `placing::insert_on_board` meets its contract.
use mathlib.Core.List.{[]}
use native.Mathlib.Omega.{arith}
use Rattle.lists.proofs.Arrays.{get_d_any}
use Rattle.candidate.proofs.placing.OnBoard.{inserts_on_board}
use Rattle.candidate.proofs.placing.insert_on_board.Goals as goal

pub returns : goal.returns
returns c =
    let same = get_d_any c.args.free.now c.args.board c.index-free-board.result [] (omega (arith, c.requires.known, c.told-free)) in
    inserts_on_board c.args.free.now c.args.board c.args.kerf_width c.args.stock.pattern c.args.cut c.args.h c.try_insert.new.free c.try_insert.result c.is_some.result c.is_some.ensures
    (rw same at c.try_insert.ensures)
