-- The loop's invariant: the areas of the sheets so far.
use Prim.Native.Nat.{◌≤◌}
use mathlib.Core.Path.{◌≡◌}
use mathlib.Core.List.{map}
use lib.ListN.{length, get_or, take}
use Rattle.model.specs.Types.{stock_area}
use Rattle.project.specs.Problem.{board_in}
use Rattle.candidate.proofs.evaluation.sheet_areas.Given as goal

abbrev pub invariant-loop-k : goal.invariant-loop-k
invariant-loop-k l = (l.c.sheets ≤ 64)
    × (length l.c.boards ≡ 64)
    × (l.areas.items ≡ map (λ b. record { placed = get_or l.placed b 0; board = stock_area (board_in l.inst b) }) (take l.k l.c.boards))
