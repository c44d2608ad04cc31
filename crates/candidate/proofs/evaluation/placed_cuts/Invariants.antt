-- The loop's invariant: the cuts of the insertions so far.
use mathlib.Core.Path.{◌≡◌}
use mathlib.Core.List.{map}
use lib.ListN.{take}
use Rattle.candidate.specs.Entries.{cut_of}
use Rattle.candidate.proofs.evaluation.placed_cuts.Given as goal

abbrev pub invariant-loop-word : goal.invariant-loop-word
invariant-loop-word l = l.cuts.items ≡ map cut_of (take l.word-index l.word-items)
