-- One step of the walks that look for a key contains_elem others, and for one that is there twice.
use Rattle.std.specs.List.{list_any}
use Prim.Native.Nat.{ℕ, ◌+◌, ◌-◌, ◌≤◌, ◌<◌}
use mathlib.Core.Path.{◌≡◌, refl, sym, ap, ap₂, ◌∙◌}
use mathlib.Core.Bool.{Bool, true, false, ◌||◌}
use mathlib.Core.List.{List, [], ◌∷◌}
use lib.Dec.{eqb}
use lib.ListN.{length, get_or, take, drop, drop_of_length-le}
use borrow.Author.Tests.{eq-eqb, ne_eqb, eqb-true, eqb-false}
use Rattle.lists.specs.Base.{any}
use Rattle.lists.proofs.Arrays.{drop_next, part_to_end}
use Rattle.candidate.specs.Keys.{elem, repeats}

-- ---- a key contains_elem others

-- `contains` of the language
pub contains_elem : (key : ℕ) (l : List ℕ) → list_any (λ y. eqb y key) l ≡ elem key l
unfolding elem any
contains_elem key [] = refl
contains_elem key (y ∷ l) = ap₂ (λ (a b : Bool). a || b) (turned y key) (contains_elem key l)
  where
    turned : (a b : ℕ) → eqb a b ≡ eqb b a
    turned a b = go (eqb a b) refl
      where
        go : (t : Bool) → eqb a b ≡ t → eqb a b ≡ eqb b a
        go true e = e ∙ sym (eq-eqb b a (sym (eqb-true a b e)))
        go false e = e ∙ sym (ne_eqb b a (λ q. eqb-false a b e (sym q)))

-- ---- a key that is there twice

-- `r` is the answer for the part behind i
module _ (l : List ℕ) (i : ℕ) (r : Bool) (here : i < length l) (is_among : r ≡ elem (get_or l i 0) (take (length l - (i + 1)) (drop (i + 1) l))) where
  here_or_behind : repeats (drop i l) ≡ r || repeats (drop (i + 1) l)
  unfolding repeats
  here_or_behind =
      ap repeats (drop_next l i 0 here) ∙ ap (λ (b : Bool). b || repeats (drop (i + 1) l)) (ap (elem (get_or l i 0)) (sym (part_to_end l (i + 1))) ∙ sym is_among)

  pub repeats_hit : r ≡ true → repeats (drop i l) ≡ true
  repeats_hit t = here_or_behind ∙ ap (λ (b : Bool). b || repeats (drop (i + 1) l)) t

  pub repeats_miss : r ≡ false → repeats (drop i l) ≡ repeats (drop (i + 1) l)
  repeats_miss t = here_or_behind ∙ ap (λ (b : Bool). b || repeats (drop (i + 1) l)) t

pub repeats_end : (l : List ℕ) (i : ℕ) → length l ≤ i → repeats (drop i l) ≡ false
unfolding repeats
repeats_end l i h = rw (drop_of_length-le l h)
