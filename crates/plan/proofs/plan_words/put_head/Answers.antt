-- The row is the definition's, with the two halves of the board's number.
use mathlib.Core.Path.{ap, ◌∙◌}
use mathlib.Core.List.{List}
use Prim.Native.Nat.{ℕ}
use Rattle.lists.specs.Parts.{patch}
use Rattle.plan.proofs.plan_words.Written.{head_written}
use Rattle.plan.proofs.plan_words.put_head.Goals as goal

pub returns : goal.returns
returns c =
    c.put_words.ensures
    ∙ ap (λ (w : List ℕ). patch c.args.part.now 0 w) (head_written c.args.stock _ _ c.args.used c.args.saw c.args.pieces c.args.waste c.args.nodes c.low_word.ensures c.high_word.ensures)
