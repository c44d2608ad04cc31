-- `variation::child_of_sheet` meets its contract.
use Prim.Native.Nat.{ℕ}
use native.Mathlib.Omega.{arith}
use mathlib.Core.Path.{sym, ap, ◌∙◌}
use mathlib.Core.List.{List}
use lib.ListN.{length, get_or}
use Rattle.candidate.specs.declared.Candidate.{Candidate as Words}
use Rattle.candidate.specs.Moves.{new_words}
use Rattle.candidate.specs.Stands.{placed_words}
use Rattle.candidate.specs.Donated.{with_insertions, donated}
use Rattle.candidate.proofs.variation.Outcomes.{index_most, board_most, donor_few, index_found, made_rebuildable, answer_none, sheet_room, child_made}
use Rattle.candidate.proofs.variation.child_of_sheet.Goals as goal

pub offset_bounds-right-index : goal.offset_bounds-right-index
offset_bounds-right-index c = omega (arith, index_most c.args.inst.now c.cuts-cuts.ensures.sound c.args.h c.args.left.now c.args.right.now c.requires.0 c.requires.1 c.args.index c.requires.2)

pub bounds-right-index : goal.bounds-right-index
bounds-right-index c = index_most c.args.inst.now c.cuts-cuts.ensures.sound c.args.h c.args.left.now c.args.right.now c.requires.0 c.requires.1 c.args.index c.requires.2

pub donor_insertions-requires : goal.donor_insertions-requires
unfolding new_words
donor_insertions-requires c = (
  board_most c.args.inst.now c.cuts-cuts.ensures.sound c.args.h c.args.left.now c.args.right.now c.requires.0 c.requires.1 c.args.index c.requires.2,
  omega (
    arith,
    ap (λ (k : Words). length (placed_words k)) c.new-child.ensures,
    donor_few c.args.inst.now c.cuts-cuts.ensures.sound c.args.h c.args.left.now c.args.right.now c.requires.0 c.requires.1 c.args.index c.requires.2,
  ),
)

pub rebuild-requires : goal.rebuild-requires
rebuild-requires c =
    let words : List ℕ = donated (placed_words c.args.right.now) (get_or c.args.right.now.boards c.args.index 0) c.args.h in
    let made = c.donor_insertions.ensures ∙ ap (λ (k : Words). with_insertions k words) c.new-child.ensures in
    made_rebuildable c.args.inst.now c.cuts-cuts.ensures.sound c.args.h c.args.left.now c.args.right.now c.requires.0 c.requires.1 c.args.index c.requires.2
    c.donor_insertions.new.c made c.as_slice.result.now c.as_slice.ensures.value

pub returns-then-not-rebuild : goal.returns-then-not-rebuild
returns-then-not-rebuild c =
    let words : List ℕ = donated (placed_words c.args.right.now) (get_or c.args.right.now.boards c.args.index 0) c.args.h in
    let made = c.donor_insertions.ensures ∙ ap (λ (k : Words). with_insertions k words) c.new-child.ensures in
    answer_none c.args.inst.now c.cuts-cuts.ensures.sound c.args.h c.args.left.now c.args.right.now c.requires.0 c.requires.1 c.args.index c.requires.2
    c.donor_insertions.new.c made c.as_slice.result.now c.as_slice.ensures.value (sym c.rebuild.ensures.answer ∙ c.if-not-rebuild.true)

pub child_sheet-requires : goal.child_sheet-requires
child_sheet-requires c = index_found c.args.inst.now c.cuts-cuts.ensures.sound c.args.h c.args.left.now c.args.right.now c.requires.0 c.requires.1 c.args.index c.requires.2

pub others_unused-requires : goal.others_unused-requires
others_unused-requires c =
    let words : List ℕ = donated (placed_words c.args.right.now) (get_or c.args.right.now.boards c.args.index 0) c.args.h in
    let made = c.donor_insertions.ensures ∙ ap (λ (k : Words). with_insertions k words) c.new-child.ensures in
    let room = sheet_room c.args.inst.now c.cuts-cuts.ensures.sound c.args.h c.args.left.now c.args.right.now c.requires.0 c.requires.1 c.args.index c.requires.2
    c.donor_insertions.new.c made c.as_slice.result.now c.as_slice.ensures.value c.child_sheet.new.made c.child_sheet.ensures
    in
    omega (arith, ap length room, ap length c.cuts-cuts.ensures.value, c.cuts-cuts.ensures.sound.ranged.few_panels)

pub returns : goal.returns
returns c =
    let words : List ℕ = donated (placed_words c.args.right.now) (get_or c.args.right.now.boards c.args.index 0) c.args.h in
    let made = c.donor_insertions.ensures ∙ ap (λ (k : Words). with_insertions k words) c.new-child.ensures in
    child_made c.args.inst.now c.cuts-cuts.ensures.sound c.args.h c.args.left.now c.args.right.now c.requires.0 c.requires.1 c.args.index c.requires.2
    c.donor_insertions.new.c made c.as_slice.result.now c.as_slice.ensures.value c.child_sheet.new.made c.child_sheet.ensures
    c.others_unused.new.c (length c.cuts-cuts.result.now) (ap length c.cuts-cuts.ensures.value) c.others_unused.ensures
    (sym c.rebuild.ensures.answer ∙ c.if-not-rebuild.false)
