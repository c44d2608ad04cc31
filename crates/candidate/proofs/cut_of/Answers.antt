-- `candidate::cut_of` meets its contract.
use Rattle.candidate.specs.Entries.{cut_of}
use borrow.Author.Rules.{rules}
use Rattle.candidate.proofs.cut_of.Goals as goal

pub returns : goal.returns
unfolding cut_of
returns c = search rules
