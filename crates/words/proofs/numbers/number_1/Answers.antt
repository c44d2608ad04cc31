-- `numbers::number_1` meets its contract.
use mathlib.Core.Path.{◌∙◌}
use Rattle.words.proofs.numbers.Numbers.{number_1}
use Rattle.words.proofs.numbers.number_1.Goals as goal

pub returns : goal.returns
returns c = c.from.ensures ∙ number_1 c.args.file.now c.args.at c.requires
