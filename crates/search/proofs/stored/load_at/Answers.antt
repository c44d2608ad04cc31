-- `stored::load_at` meets its contract.
use mathlib.Core.Path.{ap, ◌∙◌}
use Prim.Native.Nat.{◌*◌}
use Rattle.search.specs.Slots.{slot_words, unpacked, stored_in}
use Rattle.lists.proofs.Parts.{part_span}
use Rattle.search.proofs.stored.load_at.Goals as goal

pub returns : goal.returns
unfolding stored_in
returns c = c.load.ensures ∙ ap (unpacked c.args.cuts) (part_span c.args.ws.now (slot_words * c.args.slot) slot_words)
