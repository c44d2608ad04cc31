-- `FreeRects::swap_remove` meets its contract: on the array it is what it is on the rectangles that count, and the place that is left becomes blank.
use Rattle.std.proofs.Common.{ℕ, ◌≤◌, ◌<◌, ◌-◌, List, length, set, get_or, ap, ◌∙◌, arith}
use Rattle.std.proofs.lemmas.List.{take-set}
use Rattle.lists.proofs.Arrays.{swap_first}
use Rattle.lists.proofs.Padded.{count_back, padded_set, padded_pop}
use Rattle.model.specs.Types.{no_rect}
use Rattle.model.specs.declared.Rect.{Rect}
use Rattle.sheet.proofs.free_rects.FreeRects.swap_remove.Goals as goal

here : (c : goal.After-self-2-1) → c.args.index < c.self.inside.count
here c = omega (arith, c.requires, ap length c.self.view_is, count_back no_rect 65 c.self.inside.rects c.self.inside.count c.self.invariant)

pub invariant_of-self : goal.invariant_of-self
invariant_of-self c =
    let rects : List Rect = c.self.inside.rects in
    let count : ℕ = c.self.inside.count in
    padded_pop no_rect 65 (set rects c.args.index (get_or rects (count - 1) no_rect)) count
    (padded_set no_rect 65 rects count c.args.index (get_or rects (count - 1) no_rect) c.self.invariant (here c)) (omega (arith, here c))

pub returns : goal.returns
returns c =
    let rects : List Rect = c.self.inside.rects in
    let count : ℕ = c.self.inside.count in
    let under : count ≤ length rects = omega (arith, c.self.invariant.0, c.self.invariant.1) in
    rw (← c.self.view_is) (take-set (set rects c.args.index (get_or rects (count - 1) no_rect)) (count - 1) no_rect ∙ swap_first no_rect count rects c.args.index (here c) under)
