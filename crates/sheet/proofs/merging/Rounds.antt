-- One merge: the pair that is found lies in the list, what it makes is small, and the list is shorter by one.
use mathlib.Core.Path.{◌≡◌, refl, sym, ap, ◌∙◌, subst}
use mathlib.Core.Bool.{Bool, true, false, ◌||◌, true≢false}
use mathlib.Core.Logic.{◌⊎◌, inl, inr}
use mathlib.Core.List.{List}
use mathlib.Core.Option.{Option, none, some}
use Prim.Native.Nat.{ℕ, zero, suc, ◌-◌, ◌<◌}
use native.Mathlib.Omega.{arith}
use lib.ListN.{length, take, get_or, set, length-set}
use lib.Seq.{take-set-le, take-take}
use Rattle.lists.specs.Base.{is_some, swap_remove}
use Rattle.lists.specs.Elements.{All}
use Rattle.lists.proofs.Perm.{all_perm, perm_sym}
use Rattle.lists.proofs.InPlace.{swap_remove_index}
use Rattle.model.specs.declared.Rect.{Rect}
use Rattle.model.specs.Types.{no_rect}
use Rattle.model.specs.Merge.{Pair, merge_adjacent_rects, first_pair, apply_merge, merge_rounds, merge_free_rects, merges_any}
use Rattle.trust.proofs.Geometry.{Joins, down, across, merged_joins}
use Rattle.trust.proofs.Merging.{first_pair_mergeable, round, round_length}
use Rattle.sheet.specs.Bounds.{Small}
use Rattle.sheet.specs.Merging.{Scannable}
use Rattle.sheet.proofs.merging.Apart.{first_passed}

-- two small rectangles merge into a small one
joins_small : {kerf : ℕ} {a b m : Rect} → Joins kerf a b m → Small a → Small b → Small m
joins_small (down e f g i) h k = subst Small (sym i) (record { across = h.across; along = omega arith })
joins_small (across e f g i) h k = subst Small (sym i) (record { across = omega arith; along = h.along })

merged_small : (kerf : ℕ) (a b m : Rect) → merge_adjacent_rects kerf a b ≡ some m → Small a → Small b → Small m
merged_small kerf a b m e h k = go (merged_joins kerf a b m e)
  where
    go : Joins kerf a b m ⊎ Joins kerf b a m → Small m
    go (inl j) = joins_small j h k
    go (inr j) = joins_small j k h

round_small : (kerf : ℕ) (l : List Rect) (p : Pair) → first_pair kerf l ≡ some p → All Small l → All Small (apply_merge l p)
round_small kerf l p e a =
    let m = first_pair_mergeable kerf l p e in
    let r = round l p m in
    let b = all_perm Small r.before a in
    all_perm Small (perm_sym r.after) (merged_small kerf _ _ p.merged m.merges b.0 b.1.0, b.1.1)

-- left of the merged rectangle all is as it was, and no pair merges
round_apart : (kerf : ℕ) (l : List Rect) (p : Pair) → first_pair kerf l ≡ some p → first_pair kerf (take p.left (apply_merge l p)) ≡ none
unfolding apply_merge
round_apart kerf l p e =
    let m = first_pair_mergeable kerf l p e in
    let s = set l p.left p.merged in
    let size : length s ≡ length l = length-set l p.left p.merged in
    let inside : p.right < length s = omega (arith, m.inside) in
    let v = get_or s (length s - 1) no_rect in
    let kept : take p.left (swap_remove no_rect p.right s) ≡ take p.left l =
    ap (take p.left) (swap_remove_index no_rect s p.right inside)
    ∙ take-take p.left (length s - 1) (set s p.right v) (omega (arith, m.order, m.inside))
    ∙ take-set-le p.left s p.right v (omega (arith, m.order))
    ∙ take-set-le p.left l p.left p.merged (omega arith)
    in
    rw kept (first_passed kerf l p e)

-- ---- the rounds

-- no pair: merging stops; a pair: it goes on
pub rounds_stop : (n kerf : ℕ) (l : List Rect) → first_pair kerf l ≡ none → merge_rounds n kerf l ≡ l
unfolding merge_rounds
rounds_stop zero kerf l e = refl
rounds_stop (suc n) kerf l e = rw (e, merge_rounds)

rounds_on : (m n kerf : ℕ) (l : List Rect) (p : Pair) → m ≡ suc n → first_pair kerf l ≡ some p → merge_rounds m kerf l ≡ merge_rounds n kerf (apply_merge l p)
unfolding merge_rounds
rounds_on m n kerf l p s e = rw (s, e, merge_rounds)

-- the rounds keep the rectangles small
pub rounds_small : (n kerf : ℕ) (l : List Rect) → All Small l → All Small (merge_rounds n kerf l)
unfolding merge_rounds
rounds_small zero kerf l a = a
rounds_small (suc n) kerf l a = go (first_pair kerf l) refl (rounds_small n kerf)
  where
    go : (o : Option Pair) → first_pair kerf l ≡ o → ((m : List Rect) → All Small m → All Small (merge_rounds n kerf m))
        → All Small (elim o [ none ↦ l | some p ↦ merge_rounds n kerf (apply_merge l p) ])
    go none e later = a
    go (some p) e later = later (apply_merge l p) (round_small kerf l p e a)

-- the flag: whether there was a merge before, or will be one
pub flag_stop : (any : Bool) (kerf : ℕ) (l : List Rect) → first_pair kerf l ≡ none → (any || merges_any kerf l) ≡ any
unfolding merges_any
flag_stop true kerf l e = refl
flag_stop false kerf l e = rw e

pub flag_on : (any : Bool) (kerf : ℕ) (l : List Rect) (p : Pair) → first_pair kerf l ≡ some p → (any || merges_any kerf l) ≡ true
unfolding merges_any
flag_on true kerf l p e = refl
flag_on false kerf l p e = rw e

-- ---- a turn of the loop, and its end

module _ (kerf : ℕ) (l : List Rect) (p : Pair) (e : first_pair kerf l ≡ some p) where
  pub left_within : p.left < length l
  left_within = let m = first_pair_mergeable kerf l p e in omega (arith, m.order, m.inside)

  pub right_within : (m : List Rect) → m ≡ set l p.left p.merged → p.right < length m
  right_within m s = rw (s, length-set) (first_pair_mergeable kerf l p e).inside

  module _ (m after : List Rect) (stored : m ≡ set l p.left p.merged) (removed : after ≡ swap_remove no_rect p.right m) where
    is : after ≡ apply_merge l p
    unfolding apply_merge
    is = rw stored at removed

    pub falls : length l ≡ suc (length after)
    falls = rw is (sym (round_length l p (first_pair_mergeable kerf l p e)))

    pub scannable : (fresh : ℕ) → Scannable kerf l fresh → Scannable kerf after p.left
    scannable fresh ready = record { thin = ready.thin; small = rw is (round_small kerf l p e ready.small); apart = rw is (round_apart kerf l p e) }

    pub rounds_left : merge_rounds (length after) kerf after ≡ merge_rounds (length l) kerf l
    rounds_left = sym (rounds_on (length l) (length after) kerf l p falls e ∙ ap (merge_rounds (length after) kerf) (sym is))

-- from l the rounds came to m, where no pair is left
pub merged_all : (kerf : ℕ) (l m : List Rect) → first_pair kerf m ≡ none → merge_rounds (length m) kerf m ≡ merge_rounds (length l) kerf l
    → m ≡ merge_free_rects kerf l
unfolding merge_free_rects
merged_all kerf l m e same = sym (rounds_stop (length m) kerf m e) ∙ same

-- without a pair that merges the rectangles stay
none_merges : (kerf : ℕ) (l : List Rect) → merges_any kerf l ≡ false → first_pair kerf l ≡ none
unfolding merges_any
none_merges kerf l e = go (first_pair kerf l) refl e
  where
    go : (o : Option Pair) → first_pair kerf l ≡ o → is_some o ≡ false → first_pair kerf l ≡ none
    go none f h = f
    go (some p) f h = absurd (true≢false h)

pub unmerged : (kerf : ℕ) (l : List Rect) → merges_any kerf l ≡ false → l ≡ merge_free_rects kerf l
unfolding merge_free_rects
unmerged kerf l e = sym (rounds_stop (length l) kerf l (none_merges kerf l e))
