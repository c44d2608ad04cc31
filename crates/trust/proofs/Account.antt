-- The area of a sheet along its making: board area + what merges gave back = pieces + waste + losses.
use Prim.Native.Nat.{ℕ, ◌+◌}
use native.Mathlib.Omega.{arith}
use mathlib.Core.Path.{◌≡◌, sym, ap, ◌∙◌}
use mathlib.Core.List.{List, [], ◌∷◌, ◌++◌}
use mathlib.Core.Option.{some, some-injective}
use lib.ListN.{length}
use Rattle.lists.specs.Base.{sum, fold_option}
use Rattle.model.specs.declared.Rect.{Rect}
use Rattle.model.specs.declared.StockInstance.{StockInstance}
use Rattle.model.specs.Types.{area, stock_area}
use Rattle.model.specs.Merge.{merge_free_rects}
use Rattle.model.specs.Sheet.{GuillotineSheet, PlacedPiece, Insertion, Place, new_sheet, split_rects, insert_at, try_insert, rebuild}
use Rattle.model.specs.Account.{merge_gain, place_loss, place_gain, account_from}
use Rattle.trust.specs.Sound.{piece_rects, sheet_rects}
use Rattle.lists.proofs.Perm.{sum_perm}
use Rattle.lists.proofs.Sums.{map_append}
use Rattle.lists.proofs.Options.{through}
use Rattle.trust.proofs.Area.{areas, areas_append, merge_rounds_area, split_area}
use Rattle.trust.proofs.Placing.{Good, best_place_good, at_best}
use Rattle.trust.proofs.Sheet.{direction, left, new, chosen_first, in_order}

module _ (kerf : ℕ) (s : GuillotineSheet) (i : Insertion) (p : Place) where
  abbrev pieces : List Rect
  pieces = piece_rects s.placed_pieces

  abbrev free : List Rect
  free = left kerf s i p ++ new kerf s i p

  pub insert_area : Good s i p → areas (sheet_rects (insert_at kerf s i p)) + place_loss kerf i p ≡ areas (sheet_rects s) + place_gain kerf s i p
  unfolding insert_at split_rects merge_free_rects place_loss place_gain merge_gain left new direction sum
  insert_area g =
      rw (map_append (λ (q : PlacedPiece). q.fit.rect) s.placed_pieces (record { by = i; fit = p.fit } ∷ []))
      (omega (
        arith,
        areas_append (pieces ++ (p.fit.rect ∷ [])) (merge_free_rects kerf free),
        merge_rounds_area kerf (length free) free,
        areas_append (pieces ++ (p.fit.rect ∷ [])) free,
        sum_perm area (in_order kerf s i p),
        areas_append (new kerf s i p) (pieces ++ left kerf s i p),
        sum_perm area (chosen_first kerf s i p g),
        split_area kerf p.free_rect p.fit.rect (direction kerf s i p) g.fits.corner,
      ))

pub account : (kerf : ℕ) (s t : GuillotineSheet) (making : List Insertion) → fold_option (try_insert kerf) s making ≡ some t
    → areas (sheet_rects t) + (account_from kerf s making).0 ≡ areas (sheet_rects s) + (account_from kerf s making).1
unfolding fold_option account_from
account kerf s t [] e = ap (λ (x : GuillotineSheet). areas (sheet_rects x) + 0) (sym (some-injective s t e))
account kerf s t (i ∷ making) e =
    let next = through (try_insert kerf s i) (λ u. fold_option (try_insert kerf) u making) t e in
    at_best (λ u. fold_option (try_insert kerf) u making ≡ some t → areas (sheet_rects t) + (account_from kerf s (i ∷ making)).0 ≡ areas (sheet_rects s) + (account_from kerf s (i ∷ making)).1) kerf s i next.value
    (λ p f h. rw (account_from, f) (omega (arith, account kerf (insert_at kerf s i p) t making h, insert_area kerf s i p (best_place_good s i p f)))) next.first next.rest

-- from the bare board
pub board_area_lem : (kerf : ℕ) (stock : StockInstance) (making : List Insertion) (t : GuillotineSheet) → rebuild kerf stock making ≡ some t
    → areas (sheet_rects t) + (account_from kerf (new_sheet stock) making).0 ≡ stock_area stock + (account_from kerf (new_sheet stock) making).1
unfolding rebuild
board_area_lem kerf stock making t e = account kerf (new_sheet stock) t making e ∙ ap (λ (n : ℕ). n + (account_from kerf (new_sheet stock) making).1) bare
  where
    bare : areas (sheet_rects (new_sheet stock)) ≡ stock_area stock
    bare = unfold new_sheet sum in omega arith
