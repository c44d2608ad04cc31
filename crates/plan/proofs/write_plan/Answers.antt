-- The sheets, then the four words before them.
use Rattle.plan.proofs.Turns.{areas_held, plan_written}
use Rattle.plan.proofs.write_plan.Goals as goal

pub fitness_bits-bits-requires : goal.fitness_bits-bits-requires
fitness_bits-bits-requires c =
    let held = areas_held c.args.inst.now c.stock-sound.ensures.sound.ranged c.args.c.now c.requires.0 c.args.plan.now _ c.write_sheets-bodies.result c.write_sheets-bodies.ensures in
    rw c.as_slice.ensures.value (held.0, held.1)

pub returns : goal.returns
returns c =
    plan_written c.args.inst.now c.stock-sound.ensures.sound.ranged c.args.c.now c.requires.0 c.args.plan.now _ c.write_sheets-bodies.result c.write_sheets-bodies.ensures _ _ _ _ (rw c.as_slice.ensures.value at c.fitness_bits-bits.ensures) c.low_word.ensures c.high_word.ensures c.put_words.ensures c.requires.1
