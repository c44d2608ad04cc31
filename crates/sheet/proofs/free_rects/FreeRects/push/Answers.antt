-- `FreeRects::push`: behind the new rectangle the places stay blank.
use Rattle.std.proofs.Common.{◌<◌, length, ap, arith}
use Rattle.model.specs.Types.{no_rect}
use Rattle.lists.proofs.Padded.{padded_push, count_back}
use Rattle.sheet.proofs.free_rects.FreeRects.push.Goals as goal

pub invariant_of-self : goal.invariant_of-self
invariant_of-self c =
    let room : c.self.inside.count < 65 = omega (arith, c.requires, ap length c.self.view_is, count_back no_rect 65 c.self.inside.rects c.self.inside.count c.self.invariant) in
    padded_push no_rect 65 c.self.inside.rects c.self.inside.count c.args.rect c.self.invariant room
