-- The invariant: the first i insertions are replayed.
use mathlib.Core.Path.{◌≡◌}
use lib.ListN.{length, take}
use Rattle.candidate.specs.Stands.{bin_in}
use Rattle.plan.specs.Replaying.{ReplaysSheet}
use Rattle.plan.proofs.sheet_plan.replay_sheet.Given as goal

abbrev pub invariant-loop-i : goal.invariant-loop-i
invariant-loop-i l = (length l.pieces ≡ length l.initial.pieces)
    × ReplaysSheet l.inst.kerf_width (bin_in l.inst (take l.i l.insertions) l.board) l.initial.pieces l.pieces l.free l.guide.items l.p
