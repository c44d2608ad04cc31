-- `search::candidate_from_seed` meets its contract.
use Rattle.candidate.proofs.Start.{new_stands}
use Rattle.candidate.proofs.placing.Rebuilding.{new_shown}
use Rattle.search.proofs.Firsts.{seed_made}
use Rattle.search.proofs.candidate_from_seed.Goals as goal

pub place_cuts-requires : goal.place_cuts-requires
place_cuts-requires c =
    let inst = c.args.inst.now in
    rw (c.new-c.ensures, c.as_slice.ensures.value) (new_stands inst c.requires.0.ranged c.requires.0.admitted c.args.seed.now.cut_order.items c.requires.1, new_shown inst c.args.free.now)

pub returns : goal.returns
returns c =
    seed_made c.args.inst.now c.requires.0.admitted c.requires.0.ranged c.args.seed.now c.requires.1 c.place_cuts.new.free c.place_cuts.new.c
    (rw (c.new-c.ensures, c.as_slice.ensures.value) at c.place_cuts.ensures)
