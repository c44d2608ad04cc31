-- The loop's invariant: the cuts so far that are not placed.
use mathlib.Core.Path.{◌≡◌}
use Rattle.candidate.specs.Donated.{with_unused_cuts, others_than}
use Rattle.candidate.proofs.variation.others_unused.Given as goal

abbrev pub invariant-loop-cut : goal.invariant-loop-cut
invariant-loop-cut l = l.c ≡ with_unused_cuts l.fn.c (others_than l.keys.items l.cut-counter)
