-- `numbers::number_2` meets its contract.
use Rattle.std.proofs.Common.{arith}
use Rattle.words.proofs.numbers.Numbers.{number_2}
use Rattle.words.proofs.numbers.number_2.Goals as goal

pub returns : goal.returns
returns c = grind (arith, number_2 c.args.file.now c.args.at c.requires)
