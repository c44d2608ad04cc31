-- `placing::first_fit` meets its contract.
use Rattle.candidate.proofs.placing.Tries.{Tried}
use Rattle.candidate.proofs.placing.first_fit.Given as goal

abbrev pub invariant-loop-j : goal.invariant-loop-j
invariant-loop-j l = Tried l.inst (record { cut = l.cut; heuristic = l.h }) l.boards l.sheets l.initial.free l.free l.j
