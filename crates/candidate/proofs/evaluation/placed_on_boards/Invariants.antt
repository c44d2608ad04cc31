-- The loop's invariant: the areas of the insertions so far, summed up by their boards.
use lib.ListN.{take}
use Rattle.candidate.proofs.evaluation.OnBoards.{Summed}
use Rattle.candidate.proofs.evaluation.placed_on_boards.Given as goal

abbrev pub invariant-loop-word : goal.invariant-loop-word
invariant-loop-word l = Summed l.inst (take l.word-index l.insertions) l.areas
