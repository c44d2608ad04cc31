-- The merging of the free rectangles: which pair is merged, and that the rounds keep the layout and come to an end.
use Prim.Native.Nat.{ℕ, zero, suc, ◌+◌, ◌≤◌, ◌<◌}
use native.Mathlib.Nat.{add-zero}
use native.Mathlib.Omega.{arith}
use mathlib.Core.Path.{◌≡◌, refl, sym, ap, ◌∙◌, subst₂}
use mathlib.Core.Logic.{◌⊎◌, inl, inr}
use mathlib.Core.List.{List, [], ◌∷◌, ◌++◌}
use mathlib.Core.Option.{Option, none, some, some-injective, none-ne-some}
use lib.ListN.{length, get_or, set, length-set}
use Rattle.lists.specs.Base.{◌<|>◌, ◌>>=◌, remove_at}
use Rattle.lists.specs.Elements.{Perm, keep, flip, also}
use Rattle.model.specs.declared.Rect.{Rect}
use Rattle.model.specs.Types.{no_rect}
use Rattle.model.specs.Merge.{Pair, merge_adjacent_rects, find_right, find_pair, first_pair, apply_merge, merge_rounds}
use Rattle.trust.specs.Sound.{Layout}
use Rattle.lists.proofs.Perm.{perm_sym, perm_append_left, perm_middle, remove_at_perm, set_remove_at, length_remove_at, remove_at_set, get_or_remove_at, swap_remove_perm, length_perm}
use Rattle.trust.proofs.Geometry.{Joins, merged_joins}
use Rattle.trust.proofs.RectLayout.{layout_perm, layout_merge}

-- ---- the pair that the scan finds

record RightOf (kerf i : ℕ) (left : Rect) (j : ℕ) (rest : List Rect) (p : Pair) : Type 0 where
  k : ℕ
  at_left : p.left ≡ i
  at_right : p.right ≡ j + k
  inside : k < length rest
  merges : merge_adjacent_rects kerf left (get_or rest k no_rect) ≡ some p.merged

find_right_found : (kerf i : ℕ) (left : Rect) (j : ℕ) (rest : List Rect) (p : Pair) → find_right kerf i left j rest ≡ some p → RightOf kerf i left j rest p
unfolding find_right
find_right_found kerf i left j [] p e = absurd (none-ne-some p e)
find_right_found kerf i left j (r ∷ rest) p e = go (merge_adjacent_rects kerf left r) refl e (find_right_found kerf i left (suc j) rest p)
  where
    go : (o : Option Rect) → merge_adjacent_rects kerf left r ≡ o
        → ((o >>= λ m. some (record { left = i; right = j; merged = m })) <|> find_right kerf i left (suc j) rest) ≡ some p
        → (find_right kerf i left (suc j) rest ≡ some p → RightOf kerf i left (suc j) rest p) → RightOf kerf i left j (r ∷ rest) p
    go none f h later =
        let t = later h in
        record { k = suc t.k; at_left = t.at_left; at_right = omega arith; inside = omega arith; merges = t.merges }
    go (some m) f h later =
        let q = some-injective _ _ h in
        record {
          k = 0;
          at_left = sym (ap (λ (x : Pair). x.left) q);
          at_right = sym (ap (λ (x : Pair). x.right) q) ∙ sym (add-zero j);
          inside = omega arith;
          merges = f ∙ ap (λ (x : Pair). some x.merged) q;
        }

record PairOf (kerf i : ℕ) (free : List Rect) (p : Pair) : Type 0 where
  a : ℕ
  b : ℕ
  at_left : p.left ≡ i + a
  at_right : p.right ≡ i + b
  order : a < b
  inside : b < length free
  merges : merge_adjacent_rects kerf (get_or free a no_rect) (get_or free b no_rect) ≡ some p.merged

find_pair_found : (kerf i : ℕ) (free : List Rect) (p : Pair) → find_pair kerf i free ≡ some p → PairOf kerf i free p
unfolding find_pair
find_pair_found kerf i [] p e = absurd (none-ne-some p e)
find_pair_found kerf i (l ∷ rest) p e = go (find_right kerf i l (suc i) rest) refl e (find_pair_found kerf (suc i) rest p)
  where
    go : (o : Option Pair) → find_right kerf i l (suc i) rest ≡ o → (o <|> find_pair kerf (suc i) rest) ≡ some p
        → (find_pair kerf (suc i) rest ≡ some p → PairOf kerf (suc i) rest p) → PairOf kerf i (l ∷ rest) p
    go none f h later =
        let t = later h in
        record { a = suc t.a; b = suc t.b; at_left = omega arith; at_right = omega arith; order = omega arith; inside = omega arith; merges = t.merges }
    go (some q) f h later =
        let t = find_right_found kerf i l (suc i) rest p (f ∙ h) in
        record { a = 0; b = suc t.k; at_left = omega arith; at_right = omega arith; order = omega arith; inside = omega arith; merges = t.merges }

-- what the pair of `first_pair` is
pub record Mergeable (kerf : ℕ) (free : List Rect) (p : Pair) : Type 0 where
  pub order : p.left < p.right
  pub inside : p.right < length free
  pub merges : merge_adjacent_rects kerf (get_or free p.left no_rect) (get_or free p.right no_rect) ≡ some p.merged

pair_mergeable : (kerf : ℕ) (free : List Rect) (p : Pair) → PairOf kerf 0 free p → Mergeable kerf free p
pair_mergeable kerf free p t =
    record {
      order = omega arith;
      inside = omega arith;
      merges = subst₂ (λ (a b : ℕ). merge_adjacent_rects kerf (get_or free a no_rect) (get_or free b no_rect) ≡ some p.merged) (omega arith) (omega arith) t.merges;
    }

pub first_pair_mergeable : (kerf : ℕ) (free : List Rect) (p : Pair) → first_pair kerf free ≡ some p → Mergeable kerf free p
first_pair_mergeable kerf free p e = pair_mergeable kerf free p (find_pair_found kerf 0 free p e)

-- ---- one round

-- the pair gives way to the merged rectangle, up to order
pub record Round (free : List Rect) (p : Pair) : Type 0 where
  pub rest : List Rect
  pub before : Perm free (get_or free p.left no_rect ∷ get_or free p.right no_rect ∷ rest)
  pub after : Perm (apply_merge free p) (p.merged ∷ rest)

pub round : {kerf : ℕ} (free : List Rect) (p : Pair) → Mergeable kerf free p → Round free p
unfolding apply_merge
round free p h =
    let others = remove_at p.right free in
    let shorter : suc (length others) ≡ length free = length_remove_at free p.right h.inside in
    let in_others : p.left < length others = omega arith in
    let in_set : p.right < length (set free p.left p.merged) = rw length-set h.inside in
    let replaced : Perm (remove_at p.right (set free p.left p.merged)) (p.merged ∷ remove_at p.left others) =
    rw (remove_at_set free p.left p.right p.merged h.order) (set_remove_at others p.left p.merged in_others)
    in
    let left : Perm others (get_or free p.left no_rect ∷ remove_at p.left others) =
    rw (← get_or_remove_at no_rect free p.left p.right h.order) (remove_at_perm no_rect others p.left in_others)
    in
    record {
      rest = remove_at p.left others;
      before = also (remove_at_perm no_rect free p.right h.inside) (also (keep _ left) (flip _ _ _));
      after = also (swap_remove_perm no_rect (set free p.left p.merged) p.right in_set) replaced;
    }

pub round_length : {kerf : ℕ} (free : List Rect) (p : Pair) → Mergeable kerf free p → suc (length (apply_merge free p)) ≡ length free
round_length free p h =
    let r = round free p h in
    omega (arith, length_perm r.before, length_perm r.after)

-- ---- the rounds

module _ (kerf : ℕ) (board : Rect) where
  pub merge_rounds_layout : (n : ℕ) (others free : List Rect) → Layout kerf board (others ++ free) → Layout kerf board (others ++ merge_rounds n kerf free)
  unfolding merge_rounds
  merge_rounds_layout zero others free h = h
  merge_rounds_layout (suc n) others free h = go (first_pair kerf free) refl (λ xs. merge_rounds_layout n others xs)
    where
      step : (p : Pair) → Mergeable kerf free p → Layout kerf board (others ++ apply_merge free p)
      step p m =
          let r = round free p m in
          let taken : Layout kerf board (get_or free p.left no_rect ∷ get_or free p.right no_rect ∷ (others ++ r.rest)) =
          layout_perm (also (perm_append_left others r.before) (also (perm_middle others _ _) (keep _ (perm_middle others _ _)))) h
          in
          let given : Layout kerf board (p.merged ∷ (others ++ r.rest)) → Layout kerf board (others ++ apply_merge free p) =
          layout_perm (perm_sym (also (perm_append_left others r.after) (perm_middle others _ _)))
          in
          given (merged (merged_joins kerf _ _ p.merged m.merges) taken)
        where
          merged : {l r m : Rect} {rest : List Rect} → Joins kerf l r m ⊎ Joins kerf r l m → Layout kerf board (l ∷ r ∷ rest) → Layout kerf board (m ∷ rest)
          merged (inl j) t = layout_merge _ j t
          merged (inr j) t = layout_merge _ j (layout_perm (flip _ _ _) t)

      go : (o : Option Pair) → first_pair kerf free ≡ o → ((xs : List Rect) → Layout kerf board (others ++ xs) → Layout kerf board (others ++ merge_rounds n kerf xs))
          → Layout kerf board (others ++ (elim o [ none ↦ free | some p ↦ merge_rounds n kerf (apply_merge free p) ]))
      go none e later = h
      go (some p) e later = later (apply_merge free p) (step p (first_pair_mergeable kerf free p e))

-- as many rounds as rectangles leave no pair to merge
pub merge_rounds_done : (kerf n : ℕ) (free : List Rect) → length free ≤ n → first_pair kerf (merge_rounds n kerf free) ≡ none
unfolding merge_rounds find_pair
merge_rounds_done kerf zero [] h = refl
merge_rounds_done kerf zero (r ∷ rs) h = absurd (omega arith)
merge_rounds_done kerf (suc n) free h = go (first_pair kerf free) refl (λ xs. merge_rounds_done kerf n xs)
  where
    go : (o : Option Pair) → first_pair kerf free ≡ o → ((xs : List Rect) → length xs ≤ n → first_pair kerf (merge_rounds n kerf xs) ≡ none)
        → first_pair kerf (elim o [ none ↦ free | some p ↦ merge_rounds n kerf (apply_merge free p) ]) ≡ none
    go none e later = e
    go (some p) e later = later (apply_merge free p) (omega (arith, round_length free p (first_pair_mergeable kerf free p e)))
