-- `candidate::move_board` meets its contract.
use native.Mathlib.Omega.{arith}
use mathlib.Core.Path.{◌≡◌, ◌∙◌}
use lib.ListN.{length, get_or}
use Rattle.candidate.specs.Moves.{moved_up}
use Rattle.candidate.proofs.Lists.{moved_loop}
use borrow.Author.Rules.{rules}
use Rattle.candidate.proofs.move_board.Goals as goal

pub returns : goal.returns
unfolding moved_up
returns c =
    let size : length c.args.boards.now ≡ 64 = search rules in
    c.insert_word.ensures ∙ moved_loop (get_or c.args.boards.now c.args.from 0) c.args.boards.now c.args.from c.args.to c.requires.0 (omega arith)
