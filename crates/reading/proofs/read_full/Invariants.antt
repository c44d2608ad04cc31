-- `reading::read_full` ends, since each read that does not end it gives a byte or more.
use Rattle.std.proofs.Common.{length, ◌-◌}
use Rattle.reading.specs.Filled.{Filled}
use Rattle.reading.proofs.read_full.Given as goal

abbrev pub invariant-loop-size : goal.invariant-loop-size
invariant-loop-size g l =
    Filled (g.R.Read.remaining l.initial.input) (g.R.Read.remaining l.input) l.buffer l.size

abbrev pub decreases-loop-size : goal.decreases-loop-size
decreases-loop-size g l = length l.initial.buffer - l.size
