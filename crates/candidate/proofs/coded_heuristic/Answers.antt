-- `candidate::coded_heuristic` meets its contract.
use Rattle.candidate.specs.Entries.{coded_heuristic}
use Rattle.candidate.proofs.coded_heuristic.Goals as goal

pub returns : goal.returns
unfolding coded_heuristic
returns c = simp (c.rotation_of.ensures, c.split_of.ensures, c.choice_of.ensures)
