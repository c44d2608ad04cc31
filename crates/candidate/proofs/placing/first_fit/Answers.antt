-- `placing::first_fit` meets its contract.
use mathlib.Core.Path.{◌≡◌, ◌∙◌}
use lib.ListN.{get_or}
use lib.Dec.{leb}
use Rattle.candidate.specs.Fitting.{opened_if}
use Rattle.candidate.proofs.placing.Tries.{opened_bare, opened_sheet, tried_all, turn}
use Rattle.candidate.proofs.placing.first_fit.Goals as goal
use Rattle.candidate.proofs.placing.first_fit.Goals.{then-sheets-j, else-sheets-j}

pub insert_on_board-requires : goal.insert_on_board-requires
insert_on_board-requires c =
    let t = turn c.args.inst.now (record { cut = c.args.cut; heuristic = c.args.h }) c.args.boards.now c.args.sheets c.args.free.now c.requires.0 c.requires.1
    c.stock-count.ensures.sound.ranged.kerf c.stock-count.ensures.sound.ranged.boards c.stock-count.ensures.sound.ranged.few_boards c.loop-j.free c.loop-j.j c.loop-j.invariant (rw c.stock-count.ensures.value at c.loop-j-test.true) c.board-s.result c.board-s.ensures.value in
    let opened : c.if-sheets-j.free ≡ opened_if (leb c.args.sheets c.loop-j.j) c.loop-j.free (get_or c.args.boards.now c.loop-j.j 0) c.board-s.result =
    elim c.if-sheets-j.branch [
      | then-sheets-j w ↦ opened_bare _ _ _ _ _ _ w.if-sheets-j.true (w.free-is ∙ w.open_board.ensures)
      | else-sheets-j w ↦ opened_sheet _ _ _ _ _ _ w.if-sheets-j.false w.free-is
    ]
    in
    rw c.kerf_width-kerf_width.ensures.value (t.fillable c.if-sheets-j.free opened)

pub returns-then-insert_on_board : goal.returns-then-insert_on_board
returns-then-insert_on_board c =
    let t = turn c.args.inst.now (record { cut = c.args.cut; heuristic = c.args.h }) c.args.boards.now c.args.sheets c.args.free.now c.requires.0 c.requires.1
    c.stock-count.ensures.sound.ranged.kerf c.stock-count.ensures.sound.ranged.boards c.stock-count.ensures.sound.ranged.few_boards c.loop-j.free c.loop-j.j c.loop-j.invariant (rw c.stock-count.ensures.value at c.loop-j-test.true) c.board-s.result c.board-s.ensures.value in
    let opened : c.if-sheets-j.free ≡ opened_if (leb c.args.sheets c.loop-j.j) c.loop-j.free (get_or c.args.boards.now c.loop-j.j 0) c.board-s.result =
    elim c.if-sheets-j.branch [
      | then-sheets-j w ↦ opened_bare _ _ _ _ _ _ w.if-sheets-j.true (w.free-is ∙ w.open_board.ensures)
      | else-sheets-j w ↦ opened_sheet _ _ _ _ _ _ w.if-sheets-j.false w.free-is
    ]
    in
    t.found c.if-sheets-j.free opened c.insert_on_board.new.free c.insert_on_board.result (rw c.kerf_width-kerf_width.ensures.value at c.insert_on_board.ensures) c.if-insert_on_board.true

pub loop-j-preserved : goal.loop-j-preserved
loop-j-preserved c =
    let t = turn c.args.inst.now (record { cut = c.args.cut; heuristic = c.args.h }) c.args.boards.now c.args.sheets c.args.free.now c.requires.0 c.requires.1
    c.stock-count.ensures.sound.ranged.kerf c.stock-count.ensures.sound.ranged.boards c.stock-count.ensures.sound.ranged.few_boards c.loop-j.free c.loop-j.j c.loop-j.invariant (rw c.stock-count.ensures.value at c.loop-j-test.true) c.board-s.result c.board-s.ensures.value in
    let opened : c.if-sheets-j.free ≡ opened_if (leb c.args.sheets c.loop-j.j) c.loop-j.free (get_or c.args.boards.now c.loop-j.j 0) c.board-s.result =
    elim c.if-sheets-j.branch [
      | then-sheets-j w ↦ opened_bare _ _ _ _ _ _ w.if-sheets-j.true (w.free-is ∙ w.open_board.ensures)
      | else-sheets-j w ↦ opened_sheet _ _ _ _ _ _ w.if-sheets-j.false w.free-is
    ]
    in
    t.next c.if-sheets-j.free opened c.insert_on_board.new.free c.insert_on_board.result (rw c.kerf_width-kerf_width.ensures.value at c.insert_on_board.ensures) c.if-insert_on_board.false

pub returns : goal.returns
returns c =
    rw c.stock-count.ensures.value
    (tried_all c.args.inst.now (record { cut = c.args.cut; heuristic = c.args.h }) c.args.boards.now c.args.sheets c.args.free.now
    c.requires.0 c.requires.1 c.loop-j.free c.loop-j.j c.loop-j.invariant (rw c.stock-count.ensures.value at c.loop-j-test.false))
