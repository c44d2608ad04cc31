-- `placing::place_cut_first_fit` meets its contract.
use Rattle.candidate.proofs.placing.NextCut.{sheets_fillable, boards_ok, cut_known, placeable, places}
use Rattle.candidate.proofs.placing.place_cut_first_fit.Goals as goal

pub cut-instance-requires : goal.cut-instance-requires
cut-instance-requires c = cut_known c.args.inst.now c.args.c.now c.args.free.now c.args.cut c.requires

pub first_fit-j-requires : goal.first_fit-j-requires
first_fit-j-requires c =
    let sound = c.cut-instance.ensures.sound in (
      boards_ok c.args.inst.now sound c.args.c.now c.args.free.now c.args.cut c.requires,
      sheets_fillable c.args.inst.now sound c.args.c.now c.args.free.now c.args.cut c.requires,
    )

pub take_place-requires : goal.take_place-requires
take_place-requires c =
    rw c.stock.ensures.value
    (placeable c.args.inst.now c.stock.ensures.sound c.args.c.now c.args.free.now c.args.cut c.requires c.first_fit-j.result)

pub returns : goal.returns
returns c =
    let tries = rw c.cut-instance.ensures.value at c.first_fit-j.ensures in
    rw (c.take_place.ensures, c.stock.ensures.value)
    (places c.args.inst.now c.stock.ensures.sound c.args.c.now c.args.free.now c.args.cut c.requires c.args.h c.first_fit-j.new.free c.first_fit-j.result tries)
