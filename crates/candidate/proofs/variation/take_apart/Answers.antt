-- The loop's invariant: the insertions so far, sorted out.
use Prim.Native.Nat.{ℕ, ◌<◌}
use native.Mathlib.Omega.{arith}
use mathlib.Core.Path.{◌≡◌, sym, ap, ◌∙◌}
use mathlib.Core.List.{List}
use lib.ListN.{length, get_or, take}
use lib.Seq.{take-length, length-take-le}
use Rattle.candidate.specs.declared.Candidate.{Candidate as Words}
use Rattle.candidate.specs.Entries.{cut_of}
use Rattle.candidate.specs.Moves.{with_insertion, with_unused}
use Rattle.candidate.specs.Stands.{placed_words}
use Rattle.candidate.proofs.variation.Apart.{sorted_none, sorted_out, sorted_kept, sorted_all, sorted_few, kept_few}
use borrow.Author.Rules.{rules}
use Rattle.candidate.proofs.variation.take_apart.Goals as goal
use Rattle.candidate.proofs.variation.take_apart.Goals.{then-board_of-board, else-board_of-board}

pub loop-word-init : goal.loop-word-init
loop-word-init c =
    (λ i. record { boards = c.args.c.now.boards; sheets = c.args.c.now.sheets; insertions = record { items = c.take-insertions.ensures.after i }; unused = c.args.c.now.unused })
    ∙ sorted_none c.args.c.now c.args.board

pub push-requires : goal.push-requires
push-requires c =
    let words : List ℕ = c.as_slice-word-items.result.now in
    let all : words ≡ placed_words c.args.c.now = c.as_slice-word-items.ensures.value ∙ ap (λ v. v.items) c.take-insertions.ensures.value in
    let few : length c.loop-word.c.unused.items < 64 =
    omega (arith, ap length all, ap (λ (k : Words). length k.unused.items) c.loop-word.invariant, sorted_few c.args.c.now c.args.board (take c.loop-word.word-index words), length-take-le c.loop-word.word-index words (omega arith))
    in
    search rules

pub push-requires-else-board_of-board : goal.push-requires-else-board_of-board
push-requires-else-board_of-board c =
    let words : List ℕ = c.as_slice-word-items.result.now in
    let all : words ≡ placed_words c.args.c.now = c.as_slice-word-items.ensures.value ∙ ap (λ v. v.items) c.take-insertions.ensures.value in
    let few : length c.loop-word.c.insertions.items < 64 =
    omega (arith, ap length all, ap (λ (k : Words). length k.insertions.items) c.loop-word.invariant, kept_few c.args.c.now c.args.board (take c.loop-word.word-index words), length-take-le c.loop-word.word-index words (omega arith))
    in
    search rules

pub loop-word-preserved : goal.loop-word-preserved
unfolding with_insertion with_unused
loop-word-preserved c =
    let words : List ℕ = c.as_slice-word-items.result.now in
    let word : ℕ = get_or words c.loop-word.word-index 0 in
    let k : Words = c.loop-word.c in
    elim c.if-board_of-board.branch [
      | then-board_of-board w ↦
          w.c-is
          ∙ (λ i. record { boards = k.boards; sheets = k.sheets; insertions = k.insertions; unused = record { items = w.push.ensures.items i } })
          ∙ ap (with_unused k) w.cut_of.ensures
          ∙ ap (λ (x : Words). with_unused x (cut_of word)) c.loop-word.invariant
          ∙ sorted_out c.args.c.now c.args.board words c.loop-word.word-index c.loop-word-test.true (sym c.board_of.ensures ∙ w.if-board_of-board.true)
      | else-board_of-board w ↦
          w.c-is
          ∙ (λ i. record { boards = k.boards; sheets = k.sheets; insertions = record { items = w.push-else-board_of-board.ensures.items i }; unused = k.unused })
          ∙ ap (λ (x : Words). with_insertion x word) c.loop-word.invariant
          ∙ sorted_kept c.args.c.now c.args.board words c.loop-word.word-index c.loop-word-test.true (λ e. w.if-board_of-board.false (c.board_of.ensures ∙ e))
    ]

pub returns : goal.returns
returns c =
    let words : List ℕ = c.as_slice-word-items.result.now in
    let end : c.loop-word.word-index ≡ length words = omega arith in
    c.loop-word.invariant
    ∙ sorted_all c.args.c.now c.args.board (take c.loop-word.word-index words)
    (ap (λ (n : ℕ). take n words) end ∙ take-length words ∙ c.as_slice-word-items.ensures.value ∙ ap (λ v. v.items) c.take-insertions.ensures.value)
