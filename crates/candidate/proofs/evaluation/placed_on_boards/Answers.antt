-- The loop's invariant: the areas of the insertions so far, summed up by their boards.
use Prim.Native.Nat.{ℕ}
use native.Mathlib.Omega.{arith}
use mathlib.Core.Path.{ap, ◌∙◌}
use lib.ListN.{replicate, length-replicate, get_or-replicate}
use Rattle.model.specs.Types.{cut_area}
use Rattle.project.specs.Problem.{cut_in}
use Rattle.candidate.specs.OnSheets.{Known}
use Rattle.candidate.proofs.evaluation.OnBoards.{summed_none, summed_most, summed_more, summed_all}
use Rattle.lists.proofs.Every.{all_get}
use Rattle.candidate.proofs.evaluation.placed_on_boards.Goals as goal

pub loop-word-init : goal.loop-word-init
loop-word-init c = summed_none c.args.inst.now c.args.insertions.now (replicate 64 0) (length-replicate {A = ℕ} 64 0) (λ b h. get_or-replicate {A = ℕ} 64 b 0 0 h)

pub overflow_add-areas : goal.overflow_add-areas
overflow_add-areas c =
    let inst = c.args.inst.now in
    let words = c.args.insertions.now in
    let known = all_get (Known inst) words c.loop-word.word-index 0 c.requires.0 c.loop-word-test.true in
    let most = summed_most inst words c.loop-word.areas c.loop-word.word-index c.board_of-board.result c.area.result c.loop-word-test.true c.board_of-board.ensures
    (c.area.ensures ∙ ap cut_area c.cut-cut.ensures.value ∙ ap (λ (k : ℕ). cut_area (cut_in inst k)) c.cut_of.ensures)
    (omega (arith, c.board_of-board.ensures, known.0)) c.loop-word.invariant in
    record { fits = omega (arith, most, c.requires.1) }

pub loop-word-preserved : goal.loop-word-preserved
loop-word-preserved c =
    let inst = c.args.inst.now in
    let words = c.args.insertions.now in
    let known = all_get (Known inst) words c.loop-word.word-index 0 c.requires.0 c.loop-word-test.true in
    summed_more inst words c.loop-word.areas c.loop-word.word-index c.board_of-board.result c.area.result c.loop-word-test.true c.board_of-board.ensures
    (c.area.ensures ∙ ap cut_area c.cut-cut.ensures.value ∙ ap (λ (k : ℕ). cut_area (cut_in inst k)) c.cut_of.ensures)
    (omega (arith, c.board_of-board.ensures, known.0)) c.loop-word.invariant

pub returns : goal.returns
returns c = summed_all c.args.inst.now c.args.insertions.now c.loop-word.areas c.loop-word.word-index c.loop-word-test.false c.loop-word.auto.word-index-end c.loop-word.invariant
