-- `plan_text::id_line` meets its contract.
use native.Mathlib.Omega.{arith}
use Rattle.words.proofs.append.Buffers.{with_bytes-append}
use Rattle.text.proofs.plan_text.id_line.Goals as goal

pub returns : goal.returns
returns g c = grind (arith, with_bytes-append)
