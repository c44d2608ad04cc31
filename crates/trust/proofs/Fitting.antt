-- A piece of a sheet that insertions made is one of its panel's fits for the bare board.
use Prim.Native.Nat.{ℕ}
use native.Mathlib.Omega.{arith}
use mathlib.Core.Path.{◌≡◌, refl, sym, ap, subst}
use mathlib.Core.Bool.{◌&&◌}
use mathlib.Core.List.Memᴰ
use mathlib.Core.List.{List, Memᴰ}
use mathlib.Core.Option.{some}
use lib.Dec.{T, eqb}
use borrow.Author.Tests.{eq-eqb}
use Rattle.lists.specs.Base.{enumerate}
use Rattle.lists.specs.Elements.{All}
use Rattle.model.specs.declared.Rect.{Rect}
use Rattle.model.specs.declared.PatternDirection.{PatternDirection}
use Rattle.model.specs.declared.RotationPreference.{RotationPreference}
use Rattle.model.specs.declared.StockInstance.{StockInstance}
use Rattle.model.specs.declared.CutInstance.{CutInstance}
use Rattle.model.specs.declared.FitResult.{FitResult}
use Rattle.model.specs.Types.{stock_rect, pattern_code, flag_code}
use Rattle.model.specs.Fit.{pattern_matches, upright_test, upright_result, turning_matters, rotated_test, rotated_result, upright_fit, rotated_fit, fit_cut_in_rects}
use Rattle.model.specs.Sheet.{GuillotineSheet, PlacedPiece, Insertion, Place, new_sheet, places, best_place, insert_at, try_insert, rebuild}
use Rattle.lists.proofs.Perm.{all_append}
use Rattle.lists.proofs.Options.{fold_keeps}
use Rattle.lists.proofs.Every.{all_any, all_if, map_all, concat_map_all}
use Rattle.lists.proofs.Booleans.{is_true}
use Rattle.trust.specs.PieceRules.{lies_as, is_fit}
use Rattle.trust.specs.Sound.{Legal, Lies, Within, turned, upright}
use Rattle.trust.proofs.Placing.{first_best_all, at_best}
use Rattle.trust.proofs.Prefilter.{any_mem, fits_upright, fits_turned}
use Rattle.trust.proofs.Truth.{and_split, and_intro, of_true}
use Rattle.trust.proofs.RoundTrip.{piece_view}

-- ---- a piece is turned only where turning matters

abbrev pub Matters : CutInstance → FitResult → Type 0
Matters cut f = T f.rotated → T (turning_matters cut)

module _ (cut : CutInstance) (stock : PatternDirection) (free : Rect) where
  upright_matters : All (Matters cut) (upright_fit cut stock free)
  unfolding upright_fit
  upright_matters = all_if (Matters cut) (upright_test cut stock free) (upright_result cut free) (λ t k. absurd k)

  turned_matters : All (Matters cut) (rotated_fit cut stock free)
  unfolding rotated_fit rotated_test
  turned_matters = all_if (Matters cut) (rotated_test cut stock free) (rotated_result cut free) λ t k.
      let m = and_split (cut.can_rotate && turning_matters cut) _ t in
      (and_split cut.can_rotate (turning_matters cut) m.0).1

  fits_matter : (r : RotationPreference) → All (Matters cut) (fit_cut_in_rects cut stock free r)
  unfolding fit_cut_in_rects
  fits_matter RotationPreference.PreferUpright = all_append _ (upright_fit cut stock free) (rotated_fit cut stock free) upright_matters turned_matters
  fits_matter RotationPreference.PreferRotated = all_append _ (rotated_fit cut stock free) (upright_fit cut stock free) turned_matters upright_matters

place_matters : (sheet : GuillotineSheet) (i : Insertion) (p : Place) → best_place sheet i ≡ some p → Matters i.cut p.fit
unfolding best_place places
place_matters sheet i p e =
    first_best_all (λ q. Matters i.cut q.fit) _ (places sheet i) p
    (concat_map_all (λ x. Unit {0}) (λ q. Matters i.cut q.fit) _
    (λ x u. map_all (Matters i.cut) (λ q. Matters i.cut q.fit) _ (λ f h. h)
    (fit_cut_in_rects i.cut sheet.stock.pattern x.1 i.heuristic.rotation) (fits_matter i.cut sheet.stock.pattern x.1 i.heuristic.rotation))
    (enumerate sheet.free_rects) (all_any (enumerate sheet.free_rects))) e

-- what every place gives its piece, every piece of a sheet has that insertions made
abbrev pub PieceMatters : PlacedPiece → Type 0
PieceMatters p = Matters p.by.cut p.fit

pub rebuilt_matters : (kerf : ℕ) (stock : StockInstance) (making : List Insertion) (t : GuillotineSheet) → rebuild kerf stock making ≡ some t → All PieceMatters t.placed_pieces
unfolding rebuild new_sheet insert_at
rebuilt_matters kerf stock making t e =
    fold_keeps (try_insert kerf) (λ s. All PieceMatters s.placed_pieces) (λ i. Unit {0})
    (λ i s u any f h. at_best (λ v. All PieceMatters v.placed_pieces) kerf s i u (λ p b. all_append PieceMatters s.placed_pieces _ h (place_matters s i p b, tt)) f)
    making (all_any making) (new_sheet stock) t tt e

-- ---- the fit of a piece that lies in the board

-- equal in size, pattern and turned mark
lies_as_lem : (p : PlacedPiece) (f : FitResult) → p.fit.rect.width ≡ f.rect.width → p.fit.rect.length ≡ f.rect.length → p.fit.pattern ≡ f.pattern → p.fit.rotated ≡ f.rotated
    → T (lies_as (piece_view p) f)
unfolding lies_as piece_view
lies_as_lem p f w l g r =
    let same : (a b : ℕ) → a ≡ b → T (eqb a b) = λ a b e. of_true (eq-eqb a b e) in
    let tw = eqb p.fit.rect.width f.rect.width in
    let tl = eqb p.fit.rect.length f.rect.length in
    let tp = eqb (pattern_code p.fit.pattern) (pattern_code f.pattern) in
    and_intro (tw && tl && tp) _ (and_intro (tw && tl) tp (and_intro tw tl (same _ _ w) (same _ _ l)) (same _ _ (ap pattern_code g))) (same _ _ (ap flag_code r))

upright_there : (c : CutInstance) (b : StockInstance) → T (upright_test c b.pattern (stock_rect b))
    → Memᴰ (upright_result c (stock_rect b)) (fit_cut_in_rects c b.pattern (stock_rect b) RotationPreference.PreferUpright)
unfolding fit_cut_in_rects upright_fit
upright_there c b t = rw (is_true (upright_test c b.pattern (stock_rect b)) t) (Memᴰ.head refl)

turned_there : (c : CutInstance) (b : StockInstance) → T (rotated_test c b.pattern (stock_rect b))
    → Memᴰ (rotated_result c (stock_rect b)) (fit_cut_in_rects c b.pattern (stock_rect b) RotationPreference.PreferUpright)
unfolding fit_cut_in_rects rotated_fit
turned_there c b t = rw (is_true (rotated_test c b.pattern (stock_rect b)) t) (Memᴰ.append_right (upright_fit c b.pattern (stock_rect b)) (Memᴰ.head refl))

pub piece_is_fit : (b : StockInstance) (p : PlacedPiece) → Legal b.pattern p → PieceMatters p → Within (stock_rect b) p.fit.rect → T (is_fit (piece_view p) b p.by.cut)
unfolding is_fit
piece_is_fit b p g m w = go g.lies
  where
    c : CutInstance
    c = p.by.cut

    go : Lies c p.fit → T (is_fit (piece_view p) b c)
    go (upright x y q r) =
        any_mem (lies_as (piece_view p)) _
        (upright_there c b (fits_upright c b (subst (λ (z : PatternDirection). T (pattern_matches z b.pattern)) q g.grain) (omega arith) (omega arith)))
        (lies_as_lem p (upright_result c (stock_rect b)) x y q r)
    go (turned t x y q r) =
        any_mem (lies_as (piece_view p)) _
        (turned_there c b (fits_turned c b t (m (subst T (sym r) tt)) (subst (λ (z : PatternDirection). T (pattern_matches z b.pattern)) q g.grain) (omega arith) (omega arith)))
        (lies_as_lem p (rotated_result c (stock_rect b)) x y q r)
