-- `Buffer::push_decimal` meets its contract.
use native.Mathlib.Omega.{arith}
use Rattle.words.proofs.append.Buffers.{with_bytes-append}
use Rattle.words.proofs.append.Numerals.{decimal_digit, decimal_more}
use Rattle.words.proofs.append.Buffer.+push_decimal.Goals as goal

pub returns : goal.returns
returns g t c = grind (arith, with_bytes-append, decimal_more, decimal_digit)
