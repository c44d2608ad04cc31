-- `line_words::Words::quantity` meets its contract: one without the word, else the number behind it.
use Rattle.std.proofs.Common.{sym}
use Rattle.typed.proofs.line.Values.{skipped, not_skipped}
use Rattle.typed.proofs.line_words.Words.quantity.Goals as goal

pub returns-then-not-skip : goal.returns-then-not-skip
returns-then-not-skip c = let kept = not_skipped _ _ _ c.skip.ensures.left (sym c.if-not-skip.ensures.skipped) in rw (kept.0, kept.1)

pub returns : goal.returns
returns c = let word = skipped _ _ _ c.skip.ensures.left (sym c.if-not-skip.ensures.skipped) in rw (word.0, ← word.1) c.number.ensures
