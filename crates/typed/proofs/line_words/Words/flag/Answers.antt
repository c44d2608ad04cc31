-- `line_words::Words::flag` meets its contract: one if the word is there.
use Rattle.typed.proofs.line.Values.{turned}
use Rattle.typed.proofs.line_words.Words.flag.Goals as goal

pub returns-in-Panel : goal.returns-in-Panel
returns-in-Panel c = rw (c.in-Panel.is, c.from.ensures) (turned _ _ c.skip.result c.skip.ensures.skipped c.skip.ensures.left)
