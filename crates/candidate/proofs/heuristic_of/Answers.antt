-- `candidate::heuristic_of` meets its contract.
use Rattle.candidate.specs.Entries.{heuristic_of}
use borrow.Author.Rules.{rules}
use Rattle.candidate.proofs.heuristic_of.Goals as goal

pub returns : goal.returns
unfolding heuristic_of
returns c = search rules
