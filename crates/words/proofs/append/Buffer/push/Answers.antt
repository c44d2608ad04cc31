-- `Buffer::push` meets its contract, where there is room and where there is none.
use Rattle.words.proofs.append.Buffers.{with_byte}
use Rattle.words.proofs.append.Buffer.push.Goals as goal

pub returns : goal.returns
returns g c =
    let put = c.try_push-fits.ensures in
    rw (← c.self.view_is) (with_byte g.row.N c.self.inside.bytes.items c.try_push-fits.result c.args.byte _ put.variant put.ok put.err put.full)
