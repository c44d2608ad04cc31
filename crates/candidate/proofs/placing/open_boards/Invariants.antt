-- `placing::open_boards` meets its contract.
use mathlib.Core.Path.{◌≡◌}
use lib.ListN.{length, take}
use Rattle.candidate.specs.Rebuilding.{OpensBoards}
use Rattle.candidate.proofs.placing.open_boards.Given as goal

abbrev pub invariant-loop-board : goal.invariant-loop-board
invariant-loop-board l = (length l.free ≡ 64) × OpensBoards l.inst (take l.board-index l.boards) l.initial.free l.free
