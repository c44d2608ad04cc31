-- `FreeRects::open` meets its contract: all places but the first become blank, and the first rectangle counts.
use Rattle.std.proofs.Common.{ℕ, ◌≡◌, ◌≤◌, ◌+◌, ◌-◌, ◌++◌, List, take, drop, replicate, sym, subst, ap, ◌∙◌, arith}
use Rattle.std.proofs.Math.Seq.{take-suc-set, drop-drop}
use Rattle.lists.specs.Padded.{Padded}
use Rattle.lists.proofs.Parts.{length_part}
use Rattle.lists.proofs.Padded.{padded_more, padded_set, padded_first}
use Rattle.model.specs.Types.{rect, no_rect}
use Rattle.model.specs.declared.Rect.{Rect}
use borrow.Rule.Slice.PartMut.{put_mid}
use Rattle.sheet.proofs.free_rects.FreeRects.open.Goals as goal

-- what the array is before the rectangle is put there
cleared : (c : goal.After-self-1) → Padded no_rect 65 (put_mid 1 (c.max-used.result - 1) c.self.inside.rects c.fill.new.self) 1
cleared c =
    let rects : List Rect = c.self.inside.rects in
    let count : ℕ = c.self.inside.count in
    let used : ℕ = c.max-used.result in
    let within : used ≤ 65 = omega (arith, c.max-used.ensures, c.self.invariant.0) in
    let held : Padded no_rect 65 rects used = padded_more no_rect 65 rects count used c.self.invariant (omega (arith, c.max-used.ensures)) within in
    let filled : c.fill.new.self ≡ replicate (used - 1) no_rect =
    c.fill.ensures.after (λ y e. e) ∙ ap (λ (n : ℕ). replicate n no_rect) (length_part rects 1 (used - 1) (omega (arith, c.max-used.ensures, within, held.1)))
    in
    let far : used ≡ 1 + (used - 1) = omega (arith, c.max-used.ensures) in
    let behind : drop used rects ≡ drop (used - 1) (drop 1 rects) = ap (λ (n : ℕ). drop n rects) far ∙ sym (drop-drop (used - 1) 1 rects) in
    subst (λ (l : List Rect). Padded no_rect 65 (take 1 rects ++ (l ++ drop (used - 1) (drop 1 rects))) 1) (sym filled)
    (subst (λ (l : List Rect). Padded no_rect 65 (take 1 rects ++ (replicate (used - 1) no_rect ++ l)) 1) behind
    (padded_first no_rect 65 rects used 1 held (omega (arith, c.max-used.ensures))))

pub invariant_of-self : goal.invariant_of-self
invariant_of-self c = padded_set no_rect 65 _ 1 0 (rect 0 0 c.args.width c.args.length) (cleared c) (omega arith)

pub returns : goal.returns
returns c = take-suc-set _ 0 (rect 0 0 c.args.width c.args.length) (omega (arith, (cleared c).1))
