-- `placing::place_cuts` meets its contract.
use Rattle.candidate.proofs.placing.InOrder.{Placing}
use Rattle.candidate.proofs.placing.place_cuts.Given as goal

abbrev pub invariant-loop-cut : goal.invariant-loop-cut
invariant-loop-cut l = Placing l.inst l.h l.initial.c l.order l.free l.c l.cut-index
