-- `candidate::insertion_word` meets its contract.
use native.Mathlib.Omega.{arith}
use Rattle.candidate.specs.Entries.{insertion_word}
use Rattle.candidate.proofs.Codes.{heuristic_most}
use Rattle.candidate.proofs.insertion_word.Goals as goal

pub overflow_add-result-2 : goal.overflow_add-result-2
overflow_add-result-2 c = omega (arith, heuristic_most c.args.h, c.heuristic_code.ensures, c.requires.0, c.requires.1)

pub returns : goal.returns
unfolding insertion_word
returns c = simp c.heuristic_code.ensures
