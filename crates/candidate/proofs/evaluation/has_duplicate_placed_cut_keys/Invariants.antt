-- The loop's invariant: what is left has a key twice exactly if all have.
use mathlib.Core.Path.{◌≡◌}
use lib.ListN.{drop}
use Rattle.candidate.specs.Keys.{repeats}
use Rattle.candidate.proofs.evaluation.has_duplicate_placed_cut_keys.Given as goal

abbrev pub invariant-loop-i : goal.invariant-loop-i
invariant-loop-i l = repeats l.keys ≡ repeats (drop l.i l.keys)
