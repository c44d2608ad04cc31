-- The sheet is made again, with its pieces in the part; then the rest of its words.
use Prim.Native.Nat.{◌-◌}
use native.Mathlib.Omega.{arith}
use mathlib.Core.Path.{sym, ◌∙◌}
use borrow.Rule.Slice.PartMut.{same_len_mid}
use lib.ListN.{length}
use Rattle.lists.specs.Base.{concat_map}
use Rattle.model.specs.Sheet.{GuillotineSheet}
use Rattle.model.specs.Plan.{piece_words}
use Rattle.candidate.specs.Stands.{bin_in}
use Rattle.plan.proofs.sheet_plan.Parts.{patch_behind}
use Rattle.plan.proofs.sheet_plan.Making.{bin_board}
use Rattle.plan.proofs.sheet_plan.Turns.{finishable}
use Rattle.plan.proofs.sheet_plan.Bodies.{finished}
use Rattle.plan.proofs.sheet_plan.write_sheet.Goals as goal

pub finish_sheet-requires : goal.finish_sheet-requires
finish_sheet-requires c =
    rw (c.as_slice.ensures.value, c.as_slice-2.ensures.value)
    (finishable c.args.inst.now c.board-s.ensures.sound.ranged c.args.insertions.now c.args.board c.requires.0 _ _ _ c.replay_sheet-p.result _ c.board-s.ensures.value c.replay_sheet-p.ensures.state
    (omega (arith, c.requires.1, same_len_mid 10 (length c.args.part.now - 10) c.args.part.now _ c.replay_sheet-p.auto.pieces)))

pub returns : goal.returns
returns c =
    let s : GuillotineSheet = bin_in c.args.inst.now c.args.insertions.now c.args.board in
    let state = c.replay_sheet-p.ensures.state in
    record {
      written =
          finished c.args.inst.now.kerf_width s _ _ c.replay_sheet-p.result state c.args.part.now _ (sym (same_len_mid 10 (length c.args.part.now - 10) c.args.part.now _ c.replay_sheet-p.auto.pieces))
          (omega (arith, c.requires.1, same_len_mid 10 (length c.args.part.now - 10) c.args.part.now _ c.replay_sheet-p.auto.pieces))
          (patch_behind c.args.part.now 10 0 (concat_map piece_words s.placed_pieces) _ c.replay_sheet-p.ensures.pieces)
          c.board-s.result (bin_board c.args.inst.now c.args.insertions.now c.args.board c.requires.0 ∙ sym c.board-s.ensures.value) _ _
          (rw (c.as_slice.ensures.value, c.as_slice-2.ensures.value) at c.finish_sheet.ensures);
      rects = sym state.free.rects;
      nodes = state.nodes;
    }
