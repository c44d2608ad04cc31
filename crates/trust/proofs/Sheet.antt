-- A sheet's layout, from the bare board through every insertion; and that a sheet is rebuilt from its making.
use Prim.Native.Nat.{ℕ, ◌<◌}
use native.Mathlib.Omega.{arith}
use mathlib.Core.Path.{◌≡◌, refl, sym, ap, ◌∙◌, subst, subst₂}
use mathlib.Core.List.{List, [], ◌∷◌, ◌++◌, append-nil, append_assoc}
use mathlib.Core.Option.{Option, some, some-injective}
use Rattle.lists.specs.Base.{◌>>=◌, fold_option, swap_remove}
use Rattle.lists.specs.Elements.{Perm, keep, also}
use Rattle.model.specs.declared.Rect.{Rect}
use Rattle.model.specs.declared.Direction.{Direction}
use Rattle.model.specs.declared.StockInstance.{StockInstance}
use Rattle.model.specs.declared.CutInstance.{CutInstance}
use Rattle.model.specs.Types.{no_rect, stock_rect}
use Rattle.model.specs.Split.{split_direction, split_free_rect}
use Rattle.model.specs.Merge.{merge_free_rects}
use Rattle.model.specs.Sheet.{GuillotineSheet, PlacedPiece, Insertion, Place, new_sheet, split_rects, insert_at, try_insert, rebuild, making_of}
use Rattle.trust.specs.Sound.{Layout, Lies, Positive, Rebuilt, Sound, piece_rects, sheet_rects, turned, upright}
use Rattle.lists.proofs.Perm.{perm_sym, perm_append_left, perm_append_comm, perm_middle, swap_remove_out}
use Rattle.lists.proofs.Sums.{map_append}
use Rattle.lists.proofs.Options.{fold_append, through}
use Rattle.trust.proofs.RectLayout.{layout_perm, layout_replace, split_layout}
use Rattle.trust.proofs.Merging.{merge_rounds_layout}
use Rattle.trust.proofs.Placing.{Good, at_place}

-- ---- the bare board

pub new_sound : (kerf : ℕ) (stock : StockInstance) → 0 < stock.width → 0 < stock.length → Sound kerf (new_sheet stock)
unfolding new_sheet
new_sound kerf stock w l =
    record {
      positive = (record { wide = w; long = l }, tt);
      within = (record { left = omega arith; top = omega arith; right = omega arith; bottom = omega arith }, tt);
      apart = (tt, tt);
    }

-- ---- an insertion

pub lies_positive : (cut : CutInstance) (p : Place) → 0 < cut.width → 0 < cut.length → Lies cut p.fit → Positive p.fit.rect
lies_positive cut p w l (upright a b c d) = record { wide = omega arith; long = omega arith }
lies_positive cut p w l (turned a b c d e) = record { wide = omega arith; long = omega arith }

module _ (kerf : ℕ) (s : GuillotineSheet) (i : Insertion) (p : Place) where
  unfoldable pub direction : Direction
  direction = split_direction p.free_rect p.fit.rect i.heuristic.split

  unfoldable pub left : List Rect
  left = swap_remove no_rect p.index s.free_rects

  unfoldable pub new : List Rect
  new = split_free_rect direction kerf p.free_rect p.fit.rect

  -- the chosen rectangle comes first
  pub chosen_first : Good s i p → Perm (sheet_rects s) (p.free_rect ∷ (piece_rects s.placed_pieces ++ left))
  unfolding left
  chosen_first g =
      let out : Perm s.free_rects (p.free_rect ∷ left) = rw (← g.there) (swap_remove_out no_rect s.free_rects p.index g.inside) in
      also (perm_append_left (piece_rects s.placed_pieces) out) (perm_middle (piece_rects s.placed_pieces) p.free_rect left)

  -- the piece joins the pieces, the remainders the free rectangles
  pub in_order : Perm ((p.fit.rect ∷ new) ++ (piece_rects s.placed_pieces ++ left)) ((piece_rects s.placed_pieces ++ (p.fit.rect ∷ [])) ++ (left ++ new))
  in_order =
      let ps = piece_rects s.placed_pieces in
      let moved : Perm (new ++ (ps ++ left)) (ps ++ (left ++ new)) = rw (← append_assoc ps left new) (perm_append_comm new (ps ++ left)) in
      let end : Perm (p.fit.rect ∷ (ps ++ (left ++ new))) ((ps ++ (p.fit.rect ∷ [])) ++ (left ++ new)) =
      rw (append_assoc ps (p.fit.rect ∷ []) (left ++ new)) (perm_sym (perm_middle ps p.fit.rect (left ++ new)))
      in
      also (keep p.fit.rect moved) end

  pub insert_sound : 0 < i.cut.width → 0 < i.cut.length → Good s i p → Sound kerf s → Sound kerf (insert_at kerf s i p)
  unfolding insert_at split_rects merge_free_rects left new direction
  insert_sound w l g h =
      let pos : Positive p.fit.rect = lies_positive i.cut p w l g.fits.lies in
      let split : Layout kerf p.free_rect (p.fit.rect ∷ new) = split_layout kerf p.free_rect p.fit.rect g.fits.corner pos direction in
      let replaced = layout_replace (p.fit.rect ∷ new) (piece_rects s.placed_pieces ++ left) split (layout_perm (chosen_first g) h) in
      let ordered = layout_perm in_order replaced in
      rw (map_append (λ (q : PlacedPiece). q.fit.rect) s.placed_pieces (record { by = i; fit = p.fit } ∷ []))
      (merge_rounds_layout kerf (stock_rect s.stock) _ (piece_rects s.placed_pieces ++ (p.fit.rect ∷ [])) (left ++ new) ordered)

pub try_insert_sound : (kerf : ℕ) (s : GuillotineSheet) (i : Insertion) (t : GuillotineSheet) → 0 < i.cut.width → 0 < i.cut.length
    → try_insert kerf s i ≡ some t → Sound kerf s → Sound kerf t
try_insert_sound kerf s i t w l e h = at_place (Sound kerf) kerf s i t (λ p g. insert_sound kerf s i p w l g h) e

-- ---- a sheet is rebuilt from its board and its making

-- t is s with these insertions
pub record Inserted (s : GuillotineSheet) (is : List Insertion) (t : GuillotineSheet) : Type 0 where
  pub same_stock : t.stock ≡ s.stock
  pub grown : making_of t ≡ making_of s ++ is

pub try_insert_inserted : (kerf : ℕ) (s : GuillotineSheet) (i : Insertion) (t : GuillotineSheet) → try_insert kerf s i ≡ some t → Inserted s (i ∷ []) t
unfolding insert_at making_of
try_insert_inserted kerf s i t e =
    at_place (Inserted s (i ∷ [])) kerf s i t
    (λ p g. record { same_stock = refl; grown = map_append (λ (q : PlacedPiece). q.by) s.placed_pieces (record { by = i; fit = p.fit } ∷ []) }) e

pub all_inserted : (kerf : ℕ) (s t : GuillotineSheet) (is : List Insertion) → fold_option (try_insert kerf) s is ≡ some t → Inserted s is t
unfolding fold_option
all_inserted kerf s t [] e = subst (Inserted s []) (some-injective s t e) (record { same_stock = refl; grown = sym (append-nil (making_of s)) })
all_inserted kerf s t (i ∷ is) e =
    let u = through (try_insert kerf s i) (λ v. fold_option (try_insert kerf) v is) t e in
    let one = try_insert_inserted kerf s i u.value u.first in
    let more = all_inserted kerf u.value t is u.rest in
    record {
      same_stock = more.same_stock ∙ one.same_stock;
      grown = more.grown ∙ ap (λ (l : List Insertion). l ++ is) one.grown ∙ append_assoc (making_of s) (i ∷ []) is;
    }

pub new_rebuilt : (kerf : ℕ) (stock : StockInstance) → Rebuilt kerf (new_sheet stock)
unfolding rebuild new_sheet making_of fold_option
new_rebuilt kerf stock = refl

pub try_insert_rebuilt : (kerf : ℕ) (s : GuillotineSheet) (i : Insertion) (t : GuillotineSheet) → try_insert kerf s i ≡ some t → Rebuilt kerf s → Rebuilt kerf t
unfolding rebuild fold_option
try_insert_rebuilt kerf s i t e h =
    let n = try_insert_inserted kerf s i t e in
    subst₂ (λ (stock : StockInstance) (making : List Insertion). fold_option (try_insert kerf) (new_sheet stock) making ≡ some t) (sym n.same_stock) (sym n.grown)
    (fold_append (try_insert kerf) (new_sheet s.stock) (making_of s) (i ∷ [])
    ∙ ap (λ (o : Option GuillotineSheet). o >>= λ u. fold_option (try_insert kerf) u (i ∷ [])) h
    ∙ ap (λ (o : Option GuillotineSheet). o >>= λ u. some u) e)
