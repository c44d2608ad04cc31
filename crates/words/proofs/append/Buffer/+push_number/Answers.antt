-- `Buffer::push_number` meets its contract.
use native.Mathlib.Omega.{arith}
use Prim.Native.Nat.{◌-◌, ◌/◌, ◌%◌}
use mathlib.Core.List.{[], ◌∷◌}
use Rattle.model.specs.FileOf.{bytes_of}
use Rattle.words.proofs.append.Buffers.{with_bytes-nil, with_bytes-append}
use Rattle.words.proofs.append.Numerals.{bytes_none, bytes_more}
use Rattle.words.proofs.append.Buffer.+push_number.Goals as goal

pub returns-then-count-gt0 : goal.returns-then-count-gt0
returns-then-count-gt0 g t c =
    let n = c.args.number in
    let both = with_bytes-append g.row.N c.args.self.now (n % 256 ∷ []) (bytes_of (c.args.count - 1) (n / 256)) in
    let more = bytes_more c.args.count n (omega arith) in
    cc

pub returns-else-count-gt0 : goal.returns-else-count-gt0
returns-else-count-gt0 g t c = grind (arith, with_bytes-nil, bytes_none)
