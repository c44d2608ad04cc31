-- What a rebuilt sheet has: its board, free rectangles ready for the next insertion, and no more of them than insertions and one.
use Prim.Native.Nat.{ℕ, ◌+◌, ◌≤◌, ◌<◌}
use native.Mathlib.Nat.{le_refl}
use native.Mathlib.Omega.{arith}
use mathlib.Core.Path.{◌≡◌, ap}
use mathlib.Core.List.{List}
use mathlib.Core.Option.{some}
use lib.Dec.{eqb}
use lib.ListN.{length}
use Rattle.lists.specs.Elements.{All}
use Rattle.lists.proofs.Sums.{length-map}
use Rattle.lists.proofs.Kept.{length_retain}
use Rattle.lists.proofs.Options.{fold_keeps}
use Rattle.lists.proofs.Every.{all_any, all_get}
use Rattle.model.specs.declared.StockInstance.{StockInstance}
use Rattle.model.specs.Refusal.{most_side}
use Rattle.model.specs.Sheet.{GuillotineSheet, Insertion, new_sheet, try_insert, rebuild, making_of}
use Rattle.model.specs.Expand.{ProblemInstance}
use Rattle.trust.specs.Proper.{FreeCount}
use Rattle.trust.specs.Admitted.{BoardRange}
use Rattle.trust.proofs.Sheet.{Inserted, all_inserted}
use Rattle.trust.proofs.Sizes.{insert_free}
use Rattle.trust.proofs.Placing.{at_place, at_best}
use Rattle.project.specs.Problem.{board_in}
use Rattle.sheet.specs.Insertions.{Ready}
use Rattle.sheet.proofs.Sheets.{insert_ready, new_ready}
use Rattle.candidate.specs.Entries.{board_of, on_board}
use Rattle.candidate.specs.Stands.{making_in, insertion_in}

module _ (kerf : ℕ) (stock : StockInstance) (is : List Insertion) (t : GuillotineSheet) (e : rebuild kerf stock is ≡ some t) where
  -- what every insertion keeps, a row of them keeps
  rebuilt_keeps : (P : GuillotineSheet → Type 0) → ((s : GuillotineSheet) (i : Insertion) (u : GuillotineSheet) → try_insert kerf s i ≡ some u → P s → P u) → P (new_sheet stock) → P t
  unfolding rebuild
  rebuilt_keeps P step h = fold_keeps (try_insert kerf) P (λ i. Unit {0}) (λ i s u q f k. step s i u f k) is (all_any is) (new_sheet stock) t h e

  all_in : Inserted (new_sheet stock) is t
  unfolding rebuild
  all_in = all_inserted kerf (new_sheet stock) t is e

  pub rebuilt_stock : t.stock ≡ stock
  unfolding new_sheet
  rebuilt_stock = all_in.same_stock

  pub rebuilt_ready : kerf ≤ most_side → BoardRange stock → Ready kerf t.free_rects
  rebuilt_ready thin r =
      rebuilt_keeps (λ s. Ready kerf s.free_rects) (λ s i u f h. at_best (λ v. Ready kerf v.free_rects) kerf s i u (λ p g. insert_ready kerf s i p g h) f) (new_ready kerf stock thin r.width r.length)

  pub rebuilt_few : length t.free_rects ≤ length is + 1
  unfolding new_sheet making_of
  rebuilt_few =
      let free = rebuilt_keeps FreeCount (λ s i u f h. at_place FreeCount kerf s i u (λ p g. insert_free kerf s i p g h) f) (le_refl 1) in
      omega (arith, free, ap length all_in.grown, length-map (λ p. p.by) t.placed_pieces)

-- ---- a board and a making in words

pub board_ranged : (inst : ProblemInstance) → All BoardRange inst.stock → (b : ℕ) → b < length inst.stock → BoardRange (board_in inst b)
unfolding board_in
board_ranged inst r b known = all_get BoardRange inst.stock b _ r known

pub making_length : (inst : ProblemInstance) (words : List ℕ) (b : ℕ) → length (making_in inst words b) ≤ length words
unfolding making_in on_board
making_length inst words b = omega (arith, length-map (insertion_in inst) (on_board b words), length_retain (λ w. eqb (board_of w) b) words)
