-- `Buffer::push_bytes` meets its contract: what fits of the bytes stands behind what was held.
use Rattle.words.proofs.append.Buffers.{with_part}
use Rattle.words.proofs.append.Buffer.push_bytes.Goals as goal

pub returns : goal.returns
returns g c =
    let put = c.try_extend_from_slice-fits.ensures in
    rw (← c.self.view_is)
    (with_part g.row.N c.self.inside.bytes.items c.min-count.result c.remaining_capacity.result c.args.bytes.now c.min-count.ensures c.remaining_capacity.ensures c.try_extend_from_slice-fits.result _ put.variant put.ok)
