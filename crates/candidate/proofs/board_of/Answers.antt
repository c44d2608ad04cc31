-- `candidate::board_of` meets its contract.
use Rattle.candidate.specs.Entries.{board_of}
use borrow.Author.Rules.{rules}
use Rattle.candidate.proofs.board_of.Goals as goal

pub returns : goal.returns
unfolding board_of
returns c = search rules
