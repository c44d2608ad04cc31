-- Each pair makes the rest of the corpus shorter, and the pairs of the rest are those that are still to be counted.
use Rattle.std.proofs.Common.{◌≡◌, length, ◌+◌, ◌-◌, ◌≤◌}
use Rattle.vectors.specs.Replay.{no_pairs, replayed}
use Rattle.vectors.proofs.replay.Given as goal

abbrev pub invariant-loop-rest : goal.invariant-loop-rest
invariant-loop-rest l =
    (l.tally.equal ≤ l.tally.pairs) × (l.tally.pairs + length l.rest ≤ length l.corpus)
    × (replayed (length l.corpus) no_pairs l.corpus ≡ replayed (length l.corpus - l.tally.pairs) l.tally l.rest)

abbrev pub decreases-loop-rest : goal.decreases-loop-rest
decreases-loop-rest l = length l.rest
