-- Within an insertion too every free rectangle lies in the board: after the split, and after each merge.
use Prim.Native.Nat.{ℕ, zero, suc, ◌≤◌}
use mathlib.Core.Path.{◌≡◌, refl}
use mathlib.Core.Logic.{◌⊎◌, inl, inr}
use mathlib.Core.List.{List}
use mathlib.Core.Option.{Option, none, some}
use Rattle.lists.specs.Base.{swap_remove}
use Rattle.lists.specs.Elements.{All}
use Rattle.model.specs.declared.Rect.{Rect}
use Rattle.model.specs.Types.{no_rect, stock_rect}
use Rattle.model.specs.Split.{split_direction, split_free_rect}
use Rattle.model.specs.Merge.{Pair, first_pair, apply_merge, merge_rounds}
use Rattle.model.specs.Sheet.{GuillotineSheet, Insertion, Place, split_rects}
use Rattle.model.specs.Refusal.{most_side}
use Rattle.trust.specs.Sound.{Sound, Within, piece_rects}
use Rattle.trust.specs.Admitted.{PanelRange}
use Rattle.trust.specs.Proper.{Bounded}
use Rattle.lists.proofs.Perm.{perm_sym, all_map, all_append, all_right, all_perm}
use Rattle.trust.proofs.Geometry.{within_trans, Joins, merged_joins, joins_within}
use Rattle.trust.proofs.RectLayout.{split_layout}
use Rattle.trust.proofs.Merging.{Mergeable, first_pair_mergeable, round}
use Rattle.trust.proofs.Placing.{Good}
use Rattle.trust.proofs.Sheet.{lies_positive, left, chosen_first}
use Rattle.trust.proofs.Bounded.{RectRange, within_range}

-- ---- the split

pub split_within : (kerf : ℕ) (s : GuillotineSheet) (i : Insertion) (p : Place) → PanelRange i.cut → Good s i p → Sound kerf s → All (Within (stock_rect s.stock)) (split_rects kerf s i p)
unfolding split_rects left
split_within kerf s i p r g h =
    let board = stock_rect s.stock in
    let d = split_direction p.free_rect p.fit.rect i.heuristic.split in
    let all = all_perm (Within board) (chosen_first kerf s i p g) h.within in
    let new = (split_layout kerf p.free_rect p.fit.rect g.fits.corner (lies_positive i.cut p r.wide r.long g.fits.lies) d).within.1 in
    all_append (Within board) (swap_remove no_rect p.index s.free_rects) (split_free_rect d kerf p.free_rect p.fit.rect)
    (all_right (Within board) (piece_rects s.placed_pieces) (swap_remove no_rect p.index s.free_rects) all.1)
    (all_map (Within p.free_rect) (Within board) (λ q w. within_trans all.0 w) (split_free_rect d kerf p.free_rect p.fit.rect) new)

-- ---- the merges

module _ (kerf : ℕ) (board : Rect) where
  pub merge_within : (free : List Rect) (p : Pair) → Mergeable kerf free p → All (Within board) free → All (Within board) (apply_merge free p)
  merge_within free p m h =
      let q = round free p m in
      let pair = all_perm (Within board) q.before h in
      all_perm (Within board) (perm_sym q.after) (one (merged_joins kerf _ _ p.merged m.merges) pair.0 pair.1.0, pair.1.1)
    where
      one : {a b c : Rect} → Joins kerf a b c ⊎ Joins kerf b a c → Within board a → Within board b → Within board c
      one (inl j) u v = joins_within board j u v
      one (inr j) u v = joins_within board j v u

  pub rounds_within : (n : ℕ) (free : List Rect) → All (Within board) free → All (Within board) (merge_rounds n kerf free)
  unfolding merge_rounds
  rounds_within zero free h = h
  rounds_within (suc n) free h = go (first_pair kerf free) refl (λ xs. rounds_within n xs)
    where
      go : (o : Option Pair) → first_pair kerf free ≡ o → ((xs : List Rect) → All (Within board) xs → All (Within board) (merge_rounds n kerf xs))
          → All (Within board) (elim o [ none ↦ free | some p ↦ merge_rounds n kerf (apply_merge free p) ])
      go none e later = h
      go (some p) e later = later (apply_merge free p) (merge_within free p (first_pair_mergeable kerf free p e) h)

-- ---- so their numbers are in range

pub split_range : (kerf : ℕ) (s : GuillotineSheet) (i : Insertion) (p : Place) → kerf ≤ most_side → PanelRange i.cut → Good s i p → Bounded kerf s → All (RectRange kerf) (split_rects kerf s i p)
split_range kerf s i p k r g h = within_range kerf s.stock (split_rects kerf s i p) k h.board (split_within kerf s i p r g h.layout)
