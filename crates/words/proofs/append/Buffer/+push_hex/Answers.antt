-- `Buffer::push_hex` meets its contract.
use native.Mathlib.Omega.{arith}
use Rattle.words.proofs.append.Buffers.{with_bytes-nil, with_bytes-append}
use Rattle.words.proofs.append.Numerals.{hex_none, hex_more}
use Rattle.words.proofs.append.Buffer.+push_hex.Goals as goal

pub returns-then-count-gt0 : goal.returns-then-count-gt0
returns-then-count-gt0 g t c = grind (arith, with_bytes-append, hex_more)

pub returns-else-count-gt0 : goal.returns-else-count-gt0
returns-else-count-gt0 g t c = grind (arith, with_bytes-nil, hex_none)
