-- The invariant: the first j sheets are written.
use Prim.Native.Nat.{◌+◌, ◌*◌}
use mathlib.Core.Path.{◌≡◌}
use lib.ListN.{length, take}
use Rattle.candidate.specs.Stands.{candidate_in}
use Rattle.plan.specs.Sheets.{WritesFrom}
use Rattle.plan.proofs.write_sheets.Given as goal

abbrev pub invariant-loop-j : goal.invariant-loop-j
invariant-loop-j l = (length l.plan ≡ length l.initial.plan)
    × WritesFrom (4 + 2 * l.c.sheets) (take l.j (candidate_in l.inst l.c).bins) l.initial.plan l.plan l.at l.areas.items
