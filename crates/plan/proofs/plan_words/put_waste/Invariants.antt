-- `plan_words::put_waste`: the words of the rectangles so far are written.
use Rattle.std.proofs.Common.{◌≡◌, take}
use Rattle.lists.specs.Base.{concat_map}
use Rattle.lists.specs.Parts.{patch}
use Rattle.model.specs.Plan.{rect_words}
use Rattle.plan.proofs.plan_words.put_waste.Given as goal

abbrev pub invariant-loop-index : goal.invariant-loop-index
invariant-loop-index l = l.plan ≡ patch l.initial.plan l.at (concat_map rect_words (take l.index l.rects))
