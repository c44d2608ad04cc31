-- `placing::rebuild` meets its contract.
use Rattle.candidate.proofs.placing.Rebuilding.{rebuild_makable, rebuild_done}
use Rattle.candidate.proofs.placing.rebuild.Goals as goal

pub insert_all-requires : goal.insert_all-requires
insert_all-requires c = rebuild_makable c.args.inst.now c.args.boards.now c.args.insertions.now c.args.free.now c.open_boards.new.free c.requires c.open_boards.ensures

pub returns : goal.returns
returns c =
    rebuild_done c.args.inst.now c.args.boards.now c.args.insertions.now c.args.free.now c.open_boards.new.free c.requires c.open_boards.ensures
    c.insert_all.new.free c.insert_all.result c.insert_all.ensures
