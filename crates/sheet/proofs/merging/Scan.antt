-- The steps of the two loops that look for a pair of rectangles that merge.
use mathlib.Core.Path.{◌≡◌, refl, ap, ◌∙◌}
use mathlib.Core.List.{List, [], ◌∷◌}
use mathlib.Core.Option.{none, some}
use Prim.Native.Nat.{ℕ, zero, suc, ◌+◌, ◌-◌, ◌≤◌, ◌<◌, max}
use native.Mathlib.Nat.{le_of_suc-le-suc, not-suc-le-zero}
use native.Mathlib.Numerals.{add-one}
use native.Mathlib.Omega.{arith}
use lib.ListN.{length, take, drop, get_or, length-take}
use lib.Seq.{drop-cons, drop-drop, get_or-take}
use Rattle.std.proofs.Common.{drop_of_length-le}
use Rattle.std.proofs.lemmas.List.{drop-take}
use Rattle.lists.specs.Base.{◌<|>◌, ◌>>=◌}
use Rattle.lists.specs.Elements.{All, Pairs}
use Rattle.model.specs.declared.Rect.{Rect}
use Rattle.model.specs.Types.{no_rect}
use Rattle.model.specs.Merge.{merge_adjacent_rects, find_right, find_pair, first_pair}
use Rattle.sheet.proofs.merging.Apart.{Apart, first_apart}

-- ---- rectangles that are known not to merge with the left one

module _ (kerf i : ℕ) (left : Rect) where
  skip_rights : (m j : ℕ) (l : List Rect) → All (Apart kerf left) (take m l) → find_right kerf i left j l ≡ find_right kerf i left (j + m) (drop m l)
  unfolding find_right Apart
  skip_rights zero j l a = ap (λ (k : ℕ). find_right kerf i left k l) (omega arith)
  skip_rights (suc m) j [] a = refl
  skip_rights (suc m) j (r ∷ l) a =
      let next : suc j + m ≡ j + suc m = omega arith in
      rw a.0 (skip_rights m (suc j) l a.1 ∙ ap (λ (k : ℕ). find_right kerf i left k (drop m l)) next)

pairs_at : (R : Rect → Rect → Type 0) (l : List Rect) (i : ℕ) → Pairs R l → i < length l → All (R (get_or l i no_rect)) (drop (suc i) l)
pairs_at R [] i p h = absurd (not-suc-le-zero h)
pairs_at R (r ∷ l) zero p h = p.0
pairs_at R (r ∷ l) (suc i) p h = pairs_at R l i p.1 (le_of_suc-le-suc h)

module _ (kerf : ℕ) (l : List Rect) where
  -- a left rectangle and those behind it
  left_start : (i : ℕ) → i < length l
      → find_pair kerf i (drop i l) ≡ (find_right kerf i (get_or l i no_rect) (i + 1) (drop (i + 1) l) <|> find_pair kerf (i + 1) (drop (i + 1) l))
  unfolding find_pair
  left_start i h = rw (drop-cons l i no_rect h, add-one i)

  -- within the first `fresh` no pair merges, so its partners may be looked for behind them
  left_known : (fresh i m : ℕ) → first_pair kerf (take fresh l) ≡ none → i < length l → m ≡ fresh - (i + 1)
      → All (Apart kerf (get_or l i no_rect)) (take m (drop (i + 1) l))
  left_known fresh i zero e h k = tt
  left_known fresh i (suc m) e h k =
      let within : i < length (take fresh l) = omega (arith, length-take fresh l) in
      let before : i < fresh = omega arith in
      let all = pairs_at (Apart kerf) (take fresh l) i (first_apart kerf (take fresh l) e) within in
      let here : get_or (take fresh l) i no_rect ≡ get_or l i no_rect = get_or-take fresh l i no_rect before in
      let whole : fresh ≡ suc i + suc m = omega arith in
      let part : drop (suc i) (take fresh l) ≡ take (suc m) (drop (i + 1) l) = rw (whole, add-one i) (drop-take (suc i) (suc m) l) in
      rw (here, part) at all

  left_fresh : (fresh i : ℕ) → first_pair kerf (take fresh l) ≡ none → i < length l
      → find_right kerf i (get_or l i no_rect) (i + 1) (drop (i + 1) l) ≡ find_right kerf i (get_or l i no_rect) (max fresh (i + 1)) (drop (max fresh (i + 1)) l)
  left_fresh fresh i e h =
      let m = fresh - (i + 1) in
      let start : i + 1 + m ≡ max fresh (i + 1) = omega arith in
      skip_rights kerf i (get_or l i no_rect) m (i + 1) (drop (i + 1) l) (left_known fresh i m e h refl)
      ∙ ap (find_right kerf i (get_or l i no_rect) (i + 1 + m)) (drop-drop m (i + 1) l)
      ∙ ap (λ (k : ℕ). find_right kerf i (get_or l i no_rect) k (drop k l)) start

  -- the outer loop starts to look behind what is known, and ends
  pub pair_left : (fresh i : ℕ) → first_pair kerf (take fresh l) ≡ none → i < length l
      → find_pair kerf i (drop i l)
      ≡ (find_right kerf i (get_or l i no_rect) (max fresh (i + 1)) (drop (max fresh (i + 1)) l) <|> find_pair kerf (i + 1) (drop (i + 1) l))
  pair_left fresh i e h = left_start i h ∙ rw (left_fresh fresh i e h)

  pub pair_end : (i : ℕ) → length l ≤ i → find_pair kerf i (drop i l) ≡ none
  unfolding find_pair
  pair_end i h = rw (drop_of_length-le l h)

  -- the inner loop passes a rectangle, finds one, and ends
  module _ (left : Rect) (i : ℕ) where
    right_step : (j : ℕ) → j < length l
        → find_right kerf i left j (drop j l)
        ≡ ((merge_adjacent_rects kerf left (get_or l j no_rect) >>= λ m. some (record { left = i; right = j; merged = m })) <|> find_right kerf i left (j + 1) (drop (j + 1) l))
    unfolding find_right
    right_step j h = rw (drop-cons l j no_rect h, add-one j)

    pub right_skip : (j : ℕ) → j < length l → none ≡ merge_adjacent_rects kerf left (get_or l j no_rect)
        → find_right kerf i left j (drop j l) ≡ find_right kerf i left (j + 1) (drop (j + 1) l)
    right_skip j h e = rw (right_step j h, ← e)

    pub right_hit : (j : ℕ) (r : Rect) → j < length l → some r ≡ merge_adjacent_rects kerf left (get_or l j no_rect)
        → find_right kerf i left j (drop j l) ≡ some (record { left = i; right = j; merged = r })
    right_hit j r h e = rw (right_step j h, ← e)

    pub right_end : (j : ℕ) → length l ≤ j → find_right kerf i left j (drop j l) ≡ none
    unfolding find_right
    right_end j h = rw (drop_of_length-le l h)
