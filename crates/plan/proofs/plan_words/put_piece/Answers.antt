-- The row is the definition's, with the number of the pattern and of the flag.
use mathlib.Core.Path.{ap, ◌∙◌}
use mathlib.Core.List.{List}
use Prim.Native.Nat.{ℕ}
use Rattle.lists.specs.Parts.{patch}
use Rattle.plan.proofs.plan_words.Written.{piece_written, pattern_is, flag_is}
use Rattle.plan.proofs.plan_words.put_piece.Goals as goal

pub returns : goal.returns
returns c =
    λ h. c.put_words.ensures ∙ ap (λ (w : List ℕ). patch c.args.plan.now c.args.at w) (piece_written c.args.cut h c.args.fit _ _ _ _ c.low_word.ensures c.high_word.ensures (pattern_is c.args.fit.pattern) (c.from.ensures ∙ flag_is c.args.fit.rotated))
