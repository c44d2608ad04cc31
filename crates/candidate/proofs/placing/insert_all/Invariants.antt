-- `placing::insert_all` meets its contract.
use Rattle.candidate.proofs.placing.Remaking.{Remaking}
use Rattle.candidate.proofs.placing.insert_all.Given as goal

abbrev pub invariant-loop-word : goal.invariant-loop-word
invariant-loop-word l = Remaking l.inst l.insertions l.initial.free l.free l.word-index
