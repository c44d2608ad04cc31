-- Whether a new rectangle merges with one before it: each held against those before says what the scan for the first pair would say.
use Prim.Native.Nat.{ℕ, zero, suc, ◌+◌, ◌≤◌, ◌<◌}
use native.Mathlib.Nat.{le_of_suc-le-suc, not-suc-le-zero}
use native.Mathlib.Numerals.{add-one}
use mathlib.Core.Path.{◌≡◌, refl, sym, ap, ◌∙◌}
use mathlib.Core.Bool.{true, false, ◌||◌, true≢false}
use mathlib.Core.List.{List, [], ◌∷◌}
use mathlib.Core.Option.{Option, none, some}
use lib.ListN.{length, get_or, take, drop}
use lib.Seq.{take_all, drop-cons}
use Rattle.std.proofs.Common.{drop_of_length-le}
use Rattle.lists.specs.Base.{is_some, any}
use Rattle.lists.specs.Elements.{All, Pairs}
use Rattle.lists.proofs.Every.{all_get}
use Rattle.trust.proofs.Truth.{or_false_split}
use Rattle.model.specs.declared.Rect.{Rect}
use Rattle.model.specs.Types.{no_rect}
use Rattle.model.specs.Merge.{Pair, merge_adjacent_rects, first_pair}
use Rattle.sheet.specs.Merging.{touches}
use Rattle.sheet.proofs.merging.Apart.{Apart, first_apart, apart_first}

-- ---- the loop over the rectangles before

module _ (kerf : ℕ) (r : Rect) (l : List Rect) where
  touch_step : (i : ℕ) → i < length l → touches kerf r (drop i l) ≡ (is_some (merge_adjacent_rects kerf (get_or l i no_rect) r) || touches kerf r (drop (i + 1) l))
  unfolding touches any
  touch_step i h = rw (drop-cons l i no_rect h, add-one i)

  pub touch_hit : (i : ℕ) → i < length l → is_some (merge_adjacent_rects kerf (get_or l i no_rect) r) ≡ true → touches kerf r (drop i l) ≡ true
  touch_hit i h e = rw (touch_step i h, e)

  pub touch_miss : (i : ℕ) → i < length l → is_some (merge_adjacent_rects kerf (get_or l i no_rect) r) ≡ false
      → touches kerf r (drop i l) ≡ touches kerf r (drop (i + 1) l)
  touch_miss i h e = rw (touch_step i h, e)

  pub touch_end : (i : ℕ) → length l ≤ i → touches kerf r (drop i l) ≡ false
  unfolding touches any
  touch_end i h = rw (drop_of_length-le l h)

-- ---- the test and the pairs

module _ (kerf : ℕ) where
  some_apart : (q r : Rect) → is_some (merge_adjacent_rects kerf q r) ≡ false → Apart kerf q r
  unfolding Apart
  some_apart q r e = go (merge_adjacent_rects kerf q r) refl e
    where
      go : (o : Option Rect) → merge_adjacent_rects kerf q r ≡ o → is_some o ≡ false → merge_adjacent_rects kerf q r ≡ none
      go none f h = f
      go (some m) f h = absurd (true≢false h)

  touches_all : (r : Rect) (old : List Rect) → touches kerf r old ≡ false → All (λ q. Apart kerf q r) old
  unfolding touches any
  touches_all r [] e = tt
  touches_all r (q ∷ old) e =
      let t = or_false_split (is_some (merge_adjacent_rects kerf q r)) (touches kerf r old) e in
      (some_apart q r t.0, touches_all r old t.1)

  all_touches : (r : Rect) (old : List Rect) → All (λ q. Apart kerf q r) old → touches kerf r old ≡ false
  unfolding touches any Apart
  all_touches r [] a = refl
  all_touches r (q ∷ old) a = rw (a.0) (all_touches r old a.1)

-- an element of a list, and those before it
module _ (R : Rect → Rect → Type 0) where
  all_next : (P : Rect → Type 0) (l : List Rect) (i : ℕ) → i < length l → All P (take i l) → P (get_or l i no_rect) → All P (take (suc i) l)
  all_next P [] i h a p = absurd (not-suc-le-zero h)
  all_next P (q ∷ l) zero h a p = (p, tt)
  all_next P (q ∷ l) (suc i) h a p = (a.0, all_next P l i (le_of_suc-le-suc h) a.1 p)

  pairs_next : (l : List Rect) (i : ℕ) → i < length l → Pairs R (take i l) → All (λ q. R q (get_or l i no_rect)) (take i l) → Pairs R (take (suc i) l)
  pairs_next [] i h p a = absurd (not-suc-le-zero h)
  pairs_next (q ∷ l) zero h p a = (tt, tt)
  pairs_next (q ∷ l) (suc i) h p a = (all_next (R q) l i (le_of_suc-le-suc h) p.0 a.0, pairs_next l i (le_of_suc-le-suc h) p.1 a.1)

  pairs_before : (l : List Rect) (i : ℕ) → i < length l → Pairs R l → All (λ q. R q (get_or l i no_rect)) (take i l)
  pairs_before [] i h p = absurd (not-suc-le-zero h)
  pairs_before (q ∷ l) zero h p = tt
  pairs_before (q ∷ l) (suc i) h p = (all_get (R q) l i no_rect p.0 (le_of_suc-le-suc h), pairs_before l i (le_of_suc-le-suc h) p.1)

module _ (kerf : ℕ) (l : List Rect) where
  -- a rectangle that merges with none before it
  pub next_apart : (i : ℕ) → i < length l → first_pair kerf (take i l) ≡ none → touches kerf (get_or l i no_rect) (take i l) ≡ false → first_pair kerf (take (i + 1) l) ≡ none
  next_apart i h e t =
      rw (add-one i)
      (apart_first kerf (take (suc i) l)
      (pairs_next (Apart kerf) l i h (first_apart kerf (take i l) e) (touches_all kerf (get_or l i no_rect) (take i l) t)))

  -- and one that does
  pub next_merges : (i : ℕ) → i < length l → touches kerf (get_or l i no_rect) (take i l) ≡ true → is_some (first_pair kerf l) ≡ true
  next_merges i h t = go (first_pair kerf l) refl
    where
      go : (o : Option Pair) → first_pair kerf l ≡ o → is_some o ≡ true
      go (some p) e = refl
      go none e =
          let none_touch = all_touches kerf (get_or l i no_rect) (take i l) (pairs_before (Apart kerf) l i h (first_apart kerf l e)) in
          absurd (true≢false (sym t ∙ none_touch))

  pub all_apart : (i : ℕ) → length l ≤ i → first_pair kerf (take i l) ≡ none → is_some (first_pair kerf l) ≡ false
  all_apart i h e = ap is_some (rw (take_all i l h) at e)
