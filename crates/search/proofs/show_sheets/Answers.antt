-- `search::show_sheets` meets its contract: the sheets of a candidate that stands are rebuilt.
use mathlib.Core.List.{[]}
use Rattle.candidate.proofs.placing.Rebuilding.{candidate_rebuildable, candidate_shown}
use Rattle.search.proofs.show_sheets.Goals as goal

pub rebuild-all-requires : goal.rebuild-all-requires
rebuild-all-requires c = rw c.as_slice.ensures.value (candidate_rebuildable c.args.inst.now [] c.args.c.now c.requires.1 c.requires.0.ranged)

pub returns : goal.returns
returns c =
    let rebuilt = rw c.as_slice.ensures.value at c.rebuild-all.ensures in
    record {
      shown = candidate_shown c.args.inst.now [] c.args.c.now c.requires.1 c.args.free.now c.rebuild-all.new.free c.rebuild-all.result rebuilt;
      others = rebuilt.others;
    }
