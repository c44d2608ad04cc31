-- `sheet::insert_at` meets its contract: the steps of `Steps`, one for each call.
use Rattle.sheet.proofs.Steps.{small_rect, room, scannable, replaced}
use Rattle.sheet.proofs.insert_at.Goals as goal

pub split_free_rect_in_direction-requires : goal.split_free_rect_in_direction-requires
split_free_rect_in_direction-requires c = (
  room c.args.kerf_width c.args.free.now c.args.index c.args.free_rect c.args.placed c.args.direction c.requires.0 c.requires.1 c.requires.2 c.swap_remove.new.self c.swap_remove.ensures,
  small_rect c.args.kerf_width c.args.free.now c.args.index c.args.free_rect c.args.placed c.args.direction c.requires.0 c.requires.1 c.requires.2,
  c.requires.2,
)

pub merge_free_rects-requires : goal.merge_free_rects-requires
merge_free_rects-requires c =
    rw c.len-fresh.ensures.value (scannable c.args.kerf_width c.args.free.now c.args.index c.args.free_rect c.args.placed c.args.direction c.requires.0 c.requires.1 c.requires.2 c.swap_remove.new.self c.swap_remove.ensures c.split_free_rect_in_direction.new.free c.split_free_rect_in_direction.ensures)

pub returns : goal.returns
returns c =
    replaced c.args.kerf_width c.args.free.now c.args.index c.args.free_rect c.args.placed c.args.direction c.requires.0 c.requires.1 c.requires.2 c.swap_remove.new.self c.swap_remove.ensures c.split_free_rect_in_direction.new.free c.split_free_rect_in_direction.ensures
    c.merge_free_rects.new.free c.merge_free_rects.result c.merge_free_rects.ensures.merged c.merge_free_rects.ensures.any
