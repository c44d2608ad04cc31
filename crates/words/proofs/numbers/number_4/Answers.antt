-- `numbers::number_4` meets its contract.
use Rattle.std.proofs.Common.{arith}
use Rattle.words.proofs.numbers.Numbers.{number_4}
use Rattle.words.proofs.numbers.number_4.Goals as goal

pub returns : goal.returns
returns c = grind (arith, number_4 c.args.file.now c.args.at c.requires)
