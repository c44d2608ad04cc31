-- The loop's invariant: the cuts on the board among the donor's insertions so far.
use Prim.Native.Nat.{ℕ}
use native.Mathlib.Omega.{arith}
use mathlib.Core.Path.{sym, ap, ◌∙◌}
use mathlib.Core.List.{List}
use lib.ListN.{length, get_or, take}
use lib.Seq.{length-take-le}
use Rattle.candidate.specs.declared.Candidate.{Candidate as Words}
use Rattle.candidate.specs.Entries.{insertion_word}
use Rattle.candidate.specs.Moves.{with_insertion}
use Rattle.candidate.specs.Donated.{anew}
use Rattle.candidate.proofs.variation.Pushes.{insertions_few, donated_here, donated_aside, cut_small}
use Rattle.candidate.proofs.variation.donor_insertions.Goals as goal
use Rattle.candidate.proofs.variation.donor_insertions.Goals.{then-board_of-board, else-board_of-board}

pub push_insertion-requires : goal.push_insertion-requires
push_insertion-requires c =
    let words : List ℕ = c.as_slice-word-items.result.now in (
      c.requires.0,
      omega (arith, c.cut_of.ensures, cut_small (get_or words c.loop-word.word-index 0)),
      omega (arith, ap length c.as_slice-word-items.ensures.value, ap (λ (k : Words). length k.insertions.items) c.loop-word.invariant, insertions_few c.args.c.now (take c.loop-word.word-index words) c.args.board c.args.h, length-take-le c.loop-word.word-index words (omega arith)),
    )

pub loop-word-preserved : goal.loop-word-preserved
loop-word-preserved c =
    let words : List ℕ = c.as_slice-word-items.result.now in
    let word : ℕ = get_or words c.loop-word.word-index 0 in
    elim c.if-board_of-board.branch [
      | then-board_of-board w ↦
          w.c-is
          ∙ w.push_insertion.ensures
          ∙ ap (λ (k : ℕ). with_insertion c.loop-word.c (insertion_word c.args.board k c.args.h)) w.cut_of.ensures
          ∙ ap (λ (x : Words). with_insertion x (anew c.args.board c.args.h word)) c.loop-word.invariant
          ∙ donated_here c.args.c.now words c.args.board c.loop-word.word-index c.args.h c.loop-word-test.true (sym c.board_of.ensures ∙ w.if-board_of-board.true)
      | else-board_of-board w ↦
          w.c-is ∙ c.loop-word.invariant ∙ donated_aside c.args.c.now words c.args.board c.loop-word.word-index c.args.h c.loop-word-test.true (λ e. w.if-board_of-board.false (c.board_of.ensures ∙ e))
    ]
