-- `stored::copy_stored` meets its contract.
use mathlib.Core.Path.{ap, ◌∙◌}
use mathlib.Core.List.{List}
use Prim.Native.Nat.{ℕ, ◌+◌, ◌-◌, ◌*◌}
use native.Mathlib.Omega.{arith}
use lib.ListN.{length-drop, drop}
use Rattle.search.specs.Slots.{slot_words}
use Rattle.lists.specs.Parts.{patch}
use Rattle.lists.proofs.Parts.{paste_patch, part_span}
use Rattle.search.proofs.stored.copy_stored.Goals as goal

pub returns : goal.returns
returns c =
    let w : List ℕ = c.args.ws.now in
    let at : ℕ = slot_words * c.args.from in
    c.copy_within.ensures.after
    ∙ paste_patch w (slot_words * c.args.to) (drop at w) (at + 130 - at) (omega (arith, length-drop at w, c.requires.0))
    ∙ ap (patch w (slot_words * c.args.to)) (part_span w at 130)
