-- `numbers::number_8` meets its contract.
use Rattle.std.proofs.Common.{arith}
use Rattle.words.proofs.numbers.Numbers.{number_8}
use Rattle.words.proofs.numbers.number_8.Goals as goal

pub returns : goal.returns
returns c = grind (arith, number_8 c.args.file.now c.args.at c.requires)
