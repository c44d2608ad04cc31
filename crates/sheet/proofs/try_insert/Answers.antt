-- `sheet::try_insert` meets its contract: no place, or the insertion at the best place.
use Rattle.sheet.proofs.Sheets.{stays, found_at, found_inside, inserts}
use Rattle.sheet.proofs.try_insert.Goals as goal

pub returns-in_default : goal.returns-in_default
returns-in_default c =
    let f = rw (c.as_slice.ensures.value, c.in_default.is) at c.best_fit.ensures in
    stays c.args.kerf_width c.args.stock_pattern c.args.cut c.args.heuristic c.args.free.now f

pub insert_at-merged-requires : goal.insert_at-merged-requires
insert_at-merged-requires c =
    let f = rw (c.as_slice.ensures.value, c.in-Some.is) at c.best_fit.ensures in
    let p = c.in-Some.field-0 in
    (c.requires, found_at c.args.kerf_width c.args.stock_pattern c.args.cut c.args.heuristic c.args.free.now p.index p.free_rect p.fit p.score f, found_inside c.args.kerf_width c.args.stock_pattern c.args.cut c.args.heuristic c.args.free.now p.index p.free_rect p.fit p.score f)

pub returns : goal.returns
returns c =
    let f = rw (c.as_slice.ensures.value, c.in-Some.is) at c.best_fit.ensures in
    let p = c.in-Some.field-0 in
    inserts c.args.kerf_width c.args.stock_pattern c.args.cut c.args.heuristic c.args.free.now p.index p.free_rect p.fit p.score f c.insert_at-merged.new.free c.insert_at-merged.result (rw c.split_direction-direction.ensures at c.insert_at-merged.ensures)
