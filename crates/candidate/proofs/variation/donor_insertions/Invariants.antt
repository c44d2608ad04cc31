-- The loop's invariant: the cuts on the board among the donor's insertions so far.
use mathlib.Core.Path.{◌≡◌}
use lib.ListN.{take}
use Rattle.candidate.specs.Donated.{with_insertions, donated}
use Rattle.candidate.proofs.variation.donor_insertions.Given as goal

abbrev pub invariant-loop-word : goal.invariant-loop-word
invariant-loop-word l = l.c ≡ with_insertions l.fn.c (donated (take l.word-index l.word-items) l.board l.h)
