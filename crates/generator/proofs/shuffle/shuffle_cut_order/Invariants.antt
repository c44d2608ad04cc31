-- What is left of the shuffle, from the present index, generator and list, gives what the whole one gives.
use Rattle.std.proofs.Common.{◌≡◌, pred}
use Rattle.generator.specs.Shuffle.{shuffled_from, shuffled}
use Rattle.generator.proofs.shuffle.shuffle_cut_order.Given as goal

abbrev pub invariant-loop-index : goal.invariant-loop-index
invariant-loop-index l = shuffled_from 0 (pred l.index) l.prng l.order ≡ shuffled 0 l.seed l.initial.order
