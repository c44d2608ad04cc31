-- A sheet's guide along its making: there exactly if no insertion merged, and then its leaves are exactly the pieces and the waste.
use Rattle.std.specs.Prelude.{if◌then◌else◌}
use Prim.Native.Nat.{ℕ, zero, suc, ◌<◌}
use mathlib.Core.Path.{◌≡◌, refl, sym, ap, ◌∙◌, subst}
use mathlib.Core.Bool.{Bool, true, false, ◌||◌, or_assoc, or-false, true≢false}
use mathlib.Core.List.{List, [], ◌∷◌, ◌++◌, map, Memᴰ}
use mathlib.Core.Option.{Option, none, some, some-injective}
use lib.ListN.{length}
use Rattle.lists.specs.Base.{is_some, fold_option, swap_remove}
use Rattle.lists.specs.Elements.{Perm, keep, also, All}
use Rattle.model.specs.declared.Rect.{Rect}
use Rattle.model.specs.declared.StockInstance.{StockInstance}
use Rattle.model.specs.declared.InstanceKey.{InstanceKey}
use Rattle.model.specs.Types.{cut_key, no_rect, stock_rect}
use Rattle.model.specs.Split.{split_direction, split_free_rect}
use Rattle.model.specs.Merge.{Pair, first_pair, merges_any, merge_free_rects, merge_rounds}
use Rattle.model.specs.Guide.{SliceNode, leaf, free, insert_subtree, replace_free_leaf}
use Rattle.model.specs.Sheet.{GuillotineSheet, PlacedPiece, Insertion, Place, new_sheet, split_rects, split_tree, insert_at, try_insert, rebuild}
use Rattle.lists.proofs.Perm.{perm_refl, perm_sym, perm_append_left, perm_append_right, perm_append_comm, perm_cancel, mem_perm, swap_remove_out}
use Rattle.trust.specs.GuideRules.{merged_from}
use Rattle.lists.proofs.Sums.{map_append}
use Rattle.lists.proofs.Options.{through}
use Rattle.trust.proofs.Placing.{Good, best_place_good, at_best}
use Rattle.trust.proofs.Sheet.{lies_positive}
use Rattle.trust.proofs.Guide.{free_leaves, piece_leaves, Replaced, grafted, replaced, replace_present, subtree}

abbrev pub piece_entries : List PlacedPiece → List (Rect × InstanceKey)
piece_entries ps = map (λ p. (p.fit.rect, cut_key p.by.cut)) ps

pub record GuideLeaves (s : GuillotineSheet) (tree : SliceNode) : Type 0 where
  pub waste : Perm (free_leaves tree) s.free_rects
  pub pieces : Perm (piece_leaves tree) (piece_entries s.placed_pieces)

-- whether a merge has voided the guide
pub data GuideState (s : GuillotineSheet) : Bool → Type 0 where
  voided : s.slicing_tree ≡ none → GuideState s true
  present : (tree : SliceNode) → s.slicing_tree ≡ some tree → GuideLeaves s tree → GuideState s false

module _ (kerf : ℕ) (s : GuillotineSheet) (i : Insertion) (p : Place) (w : 0 < i.cut.width) (l : 0 < i.cut.length) (g : Good s i p) where
  -- the tree with the insertion's subtree in the place of the free leaf
  record Grown (tree : SliceNode) : Type 0 where
    tree' : SliceNode
    made : split_tree kerf s i p ≡ some tree'
    waste : Perm (free_leaves tree') (split_rects kerf s i p)
    pieces : Perm (piece_leaves tree') (piece_entries (s.placed_pieces ++ (record { by = i; fit = p.fit } ∷ [])))

  abbrev left : List Rect
  left = swap_remove no_rect p.index s.free_rects

  abbrev new : List Rect
  new = split_free_rect (split_direction p.free_rect p.fit.rect i.heuristic.split) kerf p.free_rect p.fit.rect

  out : Perm s.free_rects (p.free_rect ∷ left)
  out = rw (← g.there) (swap_remove_out no_rect s.free_rects p.index g.inside)

  -- what the replaced leaf leaves is what swap_remove leaves
  waste_after : (tree sub tree' : SliceNode) → GuideLeaves s tree → Perm (free_leaves sub) new → Replaced p.free_rect sub tree tree' → Perm (free_leaves tree') (left ++ new)
  waste_after tree sub tree' h k r =
      let same : Perm r.rest left = perm_cancel p.free_rect r.rest left (also (perm_sym r.before) (also h.waste out)) in
      also r.after (also (perm_append_right r.rest k) (also (perm_append_left new same) (perm_append_comm new left)))

  pieces_grown : (tree sub tree' : SliceNode) → GuideLeaves s tree → piece_leaves sub ≡ (p.fit.rect, cut_key i.cut) ∷ [] → Replaced p.free_rect sub tree tree'
      → Perm (piece_leaves tree') (piece_entries (s.placed_pieces ++ (record { by = i; fit = p.fit } ∷ [])))
  pieces_grown tree sub tree' h k r =
      rw (map_append {B = Rect × InstanceKey} (λ (q : PlacedPiece). (q.fit.rect, cut_key q.by.cut)) s.placed_pieces (record { by = i; fit = p.fit } ∷ []))
      (also (subst (λ x. Perm (piece_leaves tree') (x ++ piece_leaves tree)) k r.pieces)
      (also (keep _ h.pieces) (perm_append_comm ((p.fit.rect, cut_key i.cut) ∷ []) (piece_entries s.placed_pieces))))

  tree_made : (tree sub t : SliceNode) → s.slicing_tree ≡ some tree
      → insert_subtree (split_direction p.free_rect p.fit.rect i.heuristic.split) kerf p.free_rect p.fit.rect i.cut ≡ some sub
      → replace_free_leaf tree p.free_rect sub ≡ some t → split_tree kerf s i p ≡ some t
  unfolding split_tree
  tree_made tree sub t e k f = rw (e, k) f

  grow : (tree : SliceNode) → s.slicing_tree ≡ some tree → GuideLeaves s tree → Grown tree
  unfolding split_rects
  grow tree e h =
      let sub = subtree (split_direction p.free_rect p.fit.rect i.heuristic.split) kerf p.free_rect p.fit.rect i.cut g.fits.corner (lies_positive i.cut p w l g.fits.lies) in
      let there : Memᴰ p.free_rect (free_leaves tree) = mem_perm (perm_sym (also h.waste out)) (mathlib.Core.List.Memᴰ.head refl) in
      let found = replace_present tree p.free_rect sub.tree there in
      let r = replaced (grafted tree p.free_rect sub.tree found.0 found.1) in
      record {
        tree' = found.0;
        made = tree_made tree sub.tree found.0 e sub.made found.1;
        waste = waste_after tree sub.tree found.0 h sub.waste r;
        pieces = pieces_grown tree sub.tree found.0 h sub.pieces r;
      }

  -- no pair to merge: the rounds leave the list as it is
  quiet : (n : ℕ) (rs : List Rect) → first_pair kerf rs ≡ none → merge_rounds n kerf rs ≡ rs
  unfolding merge_rounds
  quiet zero rs e = refl
  quiet (suc n) rs e = rw (e, merge_rounds)

  abbrev rects : List Rect
  rects = split_rects kerf s i p

  tree_after : (m : Bool) → merges_any kerf rects ≡ m → (insert_at kerf s i p).slicing_tree ≡ (if m then none else split_tree kerf s i p)
  unfolding insert_at
  tree_after m e = ap (λ (b : Bool). if b then none else split_tree kerf s i p) e

  free_after : merges_any kerf rects ≡ false → (insert_at kerf s i p).free_rects ≡ rects
  unfolding insert_at merge_free_rects merges_any
  free_after e = quiet (length rects) rects (none_found (first_pair kerf rects) e)
    where
      none_found : (o : Option Pair) → is_some o ≡ false → o ≡ none
      none_found none k = refl
      none_found (some q) k = absurd (true≢false k)

  no_tree : s.slicing_tree ≡ none → split_tree kerf s i p ≡ none
  unfolding split_tree
  no_tree e = rw e

  if_same : {A : Type 0} (m : Bool) (x y : A) → y ≡ x → (if m then x else y) ≡ x
  if_same true x y e = refl
  if_same false x y e = e

  pub insert_guide : (b : Bool) → GuideState s b → GuideState (insert_at kerf s i p) (b || merges_any kerf rects)
  insert_guide true (voided e) = voided (tree_after (merges_any kerf rects) refl ∙ if_same (merges_any kerf rects) none (split_tree kerf s i p) (no_tree e))
  insert_guide false (present tree e h) = go (merges_any kerf rects) refl (grow tree e h)
    where
      pieces_after : (insert_at kerf s i p).placed_pieces ≡ s.placed_pieces ++ (record { by = i; fit = p.fit } ∷ [])
      pieces_after = unfold insert_at in refl

      go : (m : Bool) → merges_any kerf rects ≡ m → Grown tree → GuideState (insert_at kerf s i p) m
      go true f t = voided (tree_after true f)
      go false f t =
          present t.tree' (tree_after false f ∙ t.made)
          (record {
            waste = subst (λ (x : List Rect). Perm (free_leaves t.tree') x) (sym (free_after f)) t.waste;
            pieces = subst (λ (x : List PlacedPiece). Perm (piece_leaves t.tree') (piece_entries x)) (sym pieces_after) t.pieces;
          })

pub making_guide : (kerf : ℕ) (s t : GuillotineSheet) (making : List Insertion) → All (λ i. (0 < i.cut.width) × (0 < i.cut.length)) making
    → fold_option (try_insert kerf) s making ≡ some t → (b : Bool) → GuideState s b → GuideState t (b || merged_from kerf s making)
unfolding fold_option merged_from
making_guide kerf s t [] h e b g = subst (λ (x : GuillotineSheet). GuideState x (b || false)) (some-injective s t e) (subst (GuideState s) (sym (or-false b)) g)
making_guide kerf s t (i ∷ rest) h e b g =
    let next = through (try_insert kerf s i) (λ u. fold_option (try_insert kerf) u rest) t e in
    at_best (λ u. fold_option (try_insert kerf) u rest ≡ some t → GuideState t (b || merged_from kerf s (i ∷ rest))) kerf s i next.value
    (λ p f k. rw (merged_from, f)
    (subst (GuideState t) (or_assoc b (merges_any kerf (split_rects kerf s i p)) (merged_from kerf (insert_at kerf s i p) rest))
    (making_guide kerf (insert_at kerf s i p) t rest h.1 k (b || merges_any kerf (split_rects kerf s i p)) (insert_guide kerf s i p h.0.0 h.0.1 (best_place_good s i p f) b g))))
    next.first next.rest

-- the guide is present exactly if the sheet had no merge; its leaves are then exactly the pieces and the waste
pub guide_present : (kerf : ℕ) (stock : StockInstance) (making : List Insertion) (t : GuillotineSheet)
    → All (λ i. (0 < i.cut.width) × (0 < i.cut.length)) making → rebuild kerf stock making ≡ some t → GuideState t (merged_from kerf (new_sheet stock) making)
unfolding rebuild
guide_present kerf stock making t h e = making_guide kerf (new_sheet stock) t making h e false (bare stock)
  where
    bare : (s : StockInstance) → GuideState (new_sheet s) false
    bare s = unfold new_sheet free_leaves piece_leaves in present (leaf (stock_rect s) free) refl (record { waste = perm_refl _; pieces = perm_refl _ })
