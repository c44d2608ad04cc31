-- That no pair merges, as a fact of every pair; it does not depend on the order of the rectangles.
use Rattle.std.specs.Prelude.{if◌then◌else◌}
use Prim.Native.Nat.{ℕ, suc, ◌-◌, ◌≤◌, ◌<◌}
use native.Mathlib.Omega.{arith}
use mathlib.Core.Path.{◌≡◌, refl, sym, ap, ◌∙◌}
use mathlib.Core.Bool.{Bool, true, false}
use mathlib.Core.List.{List, [], ◌∷◌}
use mathlib.Core.Option.{Option, none, some, some-injective, none-ne-some}
use lib.ListN.{length, take}
use Rattle.lists.specs.Base.{◌<|>◌, ◌>>=◌, swap_remove}
use Rattle.lists.specs.Elements.{All, Pairs}
use Rattle.lists.proofs.Perm.{pairs_perm, swap_remove_out}
use Rattle.lists.proofs.Every.{all_take}
use Rattle.model.specs.declared.Rect.{Rect}
use Rattle.model.specs.Types.{no_rect}
use Rattle.model.specs.Merge.{Pair, below, beside, stacked, joined, merge_adjacent_rects, find_right, find_pair, first_pair}

unfoldable pub Apart : ℕ → Rect → Rect → Type 0
Apart kerf a b = merge_adjacent_rects kerf a b ≡ none

-- two that do not merge do not merge the other way round
turned : (a b c d : Bool) (m₁ m₂ m₃ m₄ : Rect) → (if a then some m₁ else if b then some m₂ else if c then some m₃ else if d then some m₄ else none) ≡ none
    → (if b then some m₂ else if a then some m₁ else if d then some m₄ else if c then some m₃ else none) ≡ none
turned true b c d m₁ m₂ m₃ m₄ e = absurd (none-ne-some m₁ (sym e))
turned false true c d m₁ m₂ m₃ m₄ e = absurd (none-ne-some m₂ (sym e))
turned false false true d m₁ m₂ m₃ m₄ e = absurd (none-ne-some m₃ (sym e))
turned false false false true m₁ m₂ m₃ m₄ e = absurd (none-ne-some m₄ (sym e))
turned false false false false m₁ m₂ m₃ m₄ e = refl

pub apart_sym : (kerf : ℕ) (a b : Rect) → Apart kerf a b → Apart kerf b a
unfolding Apart merge_adjacent_rects
apart_sym kerf a b e =
    turned (below kerf a b) (below kerf b a) (beside kerf a b) (beside kerf b a)
    (stacked kerf a b) (stacked kerf b a) (joined kerf a b) (joined kerf b a) e

-- ---- the scan and the pairs

-- before the left one of the pair that a scan finds no pair merges
record Passed (kerf i : ℕ) (l : List Rect) (p : Pair) : Type 0 where
  from : i ≤ p.left
  apart : Pairs (Apart kerf) (take (p.left - i) l)

module _ (kerf : ℕ) where
  row_apart : (i : ℕ) (left : Rect) (j : ℕ) (rest : List Rect) → find_right kerf i left j rest ≡ none → All (Apart kerf left) rest
  unfolding find_right Apart
  row_apart i left j [] e = tt
  row_apart i left j (r ∷ rest) e = go (merge_adjacent_rects kerf left r) refl e (row_apart i left (suc j) rest)
    where
      go : (o : Option Rect) → merge_adjacent_rects kerf left r ≡ o
          → ((o >>= λ m. some (record { left = i; right = j; merged = m })) <|> find_right kerf i left (suc j) rest) ≡ none
          → (find_right kerf i left (suc j) rest ≡ none → All (λ q. merge_adjacent_rects kerf left q ≡ none) rest)
          → (merge_adjacent_rects kerf left r ≡ none) × All (λ q. merge_adjacent_rects kerf left q ≡ none) rest
      go none f h later = (f, later h)
      go (some m) f h later = absurd (none-ne-some _ (sym h))

  apart_row : (i : ℕ) (left : Rect) (j : ℕ) (rest : List Rect) → All (Apart kerf left) rest → find_right kerf i left j rest ≡ none
  unfolding find_right Apart
  apart_row i left j [] a = refl
  apart_row i left j (r ∷ rest) a = rw a.0 (apart_row i left (suc j) rest a.1)

  scan_apart : (i : ℕ) (l : List Rect) → find_pair kerf i l ≡ none → Pairs (Apart kerf) l
  unfolding find_pair
  scan_apart i [] e = tt
  scan_apart i (r ∷ rest) e = go (find_right kerf i r (suc i) rest) refl e (scan_apart (suc i) rest)
    where
      go : (o : Option Pair) → find_right kerf i r (suc i) rest ≡ o → (o <|> find_pair kerf (suc i) rest) ≡ none
          → (find_pair kerf (suc i) rest ≡ none → Pairs (Apart kerf) rest) → All (Apart kerf r) rest × Pairs (Apart kerf) rest
      go none f h later = (row_apart i r (suc i) rest f, later h)
      go (some p) f h later = absurd (none-ne-some p (sym h))

  apart_scan : (i : ℕ) (l : List Rect) → Pairs (Apart kerf) l → find_pair kerf i l ≡ none
  unfolding find_pair
  apart_scan i [] a = refl
  apart_scan i (r ∷ rest) a = rw (apart_row i r (suc i) rest a.0) (apart_scan (suc i) rest a.1)

  pub first_apart : (l : List Rect) → first_pair kerf l ≡ none → Pairs (Apart kerf) l
  first_apart l e = scan_apart 0 l e

  pub apart_first : (l : List Rect) → Pairs (Apart kerf) l → first_pair kerf l ≡ none
  apart_first l a = apart_scan 0 l a

  -- nor does one once a rectangle is swap-removed
  pub swap_apart : (l : List Rect) (i : ℕ) → i < length l → first_pair kerf l ≡ none → first_pair kerf (swap_remove no_rect i l) ≡ none
  swap_apart l i h e =
      let all = pairs_perm (Apart kerf) (apart_sym kerf) (swap_remove_out no_rect l i h) (first_apart l e) in
      apart_first (swap_remove no_rect i l) all.1

  row_left : (i : ℕ) (left : Rect) (j : ℕ) (rest : List Rect) (p : Pair) → find_right kerf i left j rest ≡ some p → p.left ≡ i
  unfolding find_right
  row_left i left j [] p e = absurd (none-ne-some p e)
  row_left i left j (r ∷ rest) p e = go (merge_adjacent_rects kerf left r) e (row_left i left (suc j) rest p)
    where
      go : (o : Option Rect) → ((o >>= λ m. some (record { left = i; right = j; merged = m })) <|> find_right kerf i left (suc j) rest) ≡ some p
          → (find_right kerf i left (suc j) rest ≡ some p → p.left ≡ i) → p.left ≡ i
      go none h later = later h
      go (some m) h later = sym (ap (λ (x : Pair). x.left) (some-injective _ _ h))

  pairs_none : (n : ℕ) (l : List Rect) → n ≡ 0 → Pairs (Apart kerf) (take n l)
  pairs_none n l e = rw e tt

  pairs_more : (n m : ℕ) (r : Rect) (rest : List Rect) → n ≡ suc m → All (Apart kerf r) rest → Pairs (Apart kerf) (take m rest)
      → Pairs (Apart kerf) (take n (r ∷ rest))
  pairs_more n m r rest e a p = rw e (all_take (Apart kerf r) m rest a, p)

  scan_passed : (i : ℕ) (l : List Rect) (p : Pair) → find_pair kerf i l ≡ some p → Passed kerf i l p
  unfolding find_pair
  scan_passed i [] p e = absurd (none-ne-some p e)
  scan_passed i (r ∷ rest) p e = go (find_right kerf i r (suc i) rest) refl e (scan_passed (suc i) rest p)
    where
      go : (o : Option Pair) → find_right kerf i r (suc i) rest ≡ o → (o <|> find_pair kerf (suc i) rest) ≡ some p
          → (find_pair kerf (suc i) rest ≡ some p → Passed kerf (suc i) rest p) → Passed kerf i (r ∷ rest) p
      go none f h later =
          let t = later h in
          let one : p.left - i ≡ suc (p.left - suc i) = omega (arith, t.from) in
          record { from = omega (arith, t.from); apart = pairs_more _ (p.left - suc i) r rest one (row_apart i r (suc i) rest f) t.apart }
      go (some q) f h later =
          let here : p.left ≡ i = row_left i r (suc i) rest p (f ∙ h) in
          record { from = omega arith; apart = pairs_none (p.left - i) (r ∷ rest) (omega arith) }

  pub first_passed : (l : List Rect) (p : Pair) → first_pair kerf l ≡ some p → first_pair kerf (take p.left l) ≡ none
  first_passed l p e =
      let t = scan_passed 0 l p e in
      let all : p.left - 0 ≡ p.left = omega arith in
      apart_first (take p.left l) (rw all at t.apart)
