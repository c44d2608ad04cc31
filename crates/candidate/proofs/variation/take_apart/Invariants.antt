-- The loop's invariant: the insertions so far, sorted out.
use mathlib.Core.Path.{◌≡◌}
use lib.ListN.{take}
use Rattle.candidate.proofs.variation.Apart.{sorted}
use Rattle.candidate.proofs.variation.take_apart.Given as goal

abbrev pub invariant-loop-word : goal.invariant-loop-word
invariant-loop-word l = l.c ≡ sorted l.fn.c l.board (take l.word-index l.word-items)
