-- The part that the entry names, or no words.
use Rattle.std.proofs.Common.{rules}
use Rattle.plan.proofs.Reading.{named_words}
use Rattle.plan.proofs.sheet_words.Goals as goal

pub returns : goal.returns
returns c =
    let words = named_words c.args.plan.now c.args.number c.sheet_part.result c.sheet_part.ensures in
    search rules
