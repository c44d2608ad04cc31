-- A list as an array: a walk along it, its first n elements, and an element stored, moved or taken out.
use Prim.Native.Nat.{◌+◌, ◌-◌, ◌<◌, ◌≤◌, min, suc, zero, ℕ}
use native.Mathlib.Nat.{le_of_suc-le-suc, not-suc-le-zero}
use native.Mathlib.Numerals.{add-one}
use native.Mathlib.Omega.{arith}
use mathlib.Core.Path.{◌∙◌, ◌≡◌, ap, refl, sym}
use mathlib.Core.Bool.{false}
use mathlib.Core.List.{[], ◌++◌, ◌∷◌, List, map}
use lib.ListN.{drop, drop_of_length-le, get_or, length, length-drop, length-set, length-take, replicate, set, take, take-append-drop}
use lib.Seq.{drop-cons, drop-drop, drop-nil, get_or-take, length-take-le, take_all, take-nil, take-set-lt, take-suc, take-suc-set, take-take}
use Rattle.lists.specs.Base.{is_empty, remove_at, sum, swap, swap_remove}
use Rattle.lists.proofs.InPlace.{swap_remove_index}
use Rattle.lists.proofs.Perm.{length_perm, swap_remove_out}
use Rattle.lists.proofs.Sums.{map_append, sum_append}

-- ---- one step of a walk

module _ {A : Type 0} where
  -- what is left from i on is the element at i and what is left from i + 1 on
  pub drop_next : (l : List A) (i : ℕ) (d : A) → i < length l → drop i l ≡ get_or l i d ∷ drop (i + 1) l
  drop_next l i d h = rw (add-one, drop-cons l i d h)

  -- and the first i + 1 elements are the first i and that one
  pub take_next : (l : List A) (i : ℕ) (d : A) → i < length l → take (i + 1) l ≡ take i l ++ (get_or l i d ∷ [])
  take_next l i d h = rw (add-one, take-suc l i d h)

  -- the first i elements are the first i - 1 and the one before i
  pub take_last : (d : A) (l : List A) (i : ℕ) → 0 < i → i ≤ length l → take i l ≡ take (i - 1) l ++ (get_or l (i - 1) d ∷ [])
  take_last d l i h k =
      let e : i ≡ suc (i - 1) = omega arith in
      ap (λ (n : ℕ). take n l) e ∙ take-suc l (i - 1) d (omega arith)

  pub drop_last_lem : (d : A) (l : List A) (i : ℕ) → 0 < i → i ≤ length l → drop (i - 1) l ≡ get_or l (i - 1) d ∷ drop i l
  drop_last_lem d l i h k =
      let e : suc (i - 1) ≡ i = omega arith in
      drop-cons l (i - 1) d (omega arith) ∙ ap (λ (n : ℕ). get_or l (i - 1) d ∷ drop n l) e

  -- a part to the end is all that is left
  pub part_to_end : (l : List A) (a : ℕ) → take (length l - a) (drop a l) ≡ drop a l
  part_to_end l a = take_all (length l - a) (drop a l) (omega (arith, length-drop a l))

pub sum_step : (l : List ℕ) (i : ℕ) → i < length l → sum (drop i l) ≡ get_or l i 0 + sum (drop (i + 1) l)
unfolding sum
sum_step l i h = rw (drop_next l i 0 h)

pub sum_end : (l : List ℕ) (i : ℕ) → length l ≤ i → sum (drop i l) ≡ 0
unfolding sum
sum_end l i h = rw (drop_of_length-le l h)

-- what stands at an index of a list, whatever stands for an element that there is not
pub get_d_any : {A : Type 0} (l : List A) (i : ℕ) (d e : A) → i < length l → get_or l i d ≡ get_or l i e
get_d_any [] i d e h = absurd (not-suc-le-zero h)
get_d_any (x ∷ l) zero d e h = refl
get_d_any (x ∷ l) (suc i) d e h = get_d_any l i d e (omega arith)

-- ---- the first n

module _ {A : Type 0} where
  -- an element is added after the first n
  pub take_push : (n : ℕ) (l : List A) (a : A) → n < length l → take (n + 1) (set l n a) ≡ take n l ++ (a ∷ [])
  take_push n l a h = rw add-one (take-suc-set l n a h)

  -- past the first n there is none of them
  pub drop_past : (n i : ℕ) (l : List A) → n ≤ i → drop i (take n l) ≡ []
  drop_past n i l h =
      let short : length (take n l) ≤ i = rw length-take (omega arith) in
      drop_of_length-le (take n l) short

  -- the element at i, and those behind it
  pub drop_within : (n : ℕ) (l : List A) (i : ℕ) (d : A) → i < n → n ≤ length l → drop i (take n l) ≡ get_or l i d ∷ drop (i + 1) (take n l)
  drop_within n l i d h k =
      let within : i < length (take n l) = rw (length-take-le n l k) h in
      rw (add-one, drop-cons (take n l) i d within, get_or-take n l i d h)

  -- swap_remove on the array is swap_remove on its first n
  pub swap_first : (d : A) (n : ℕ) (l : List A) (i : ℕ) → i < n → n ≤ length l → take (n - 1) (set l i (get_or l (n - 1) d)) ≡ swap_remove d i (take n l)
  swap_first d n l i h k =
      let below : n - 1 < n = omega arith in
      let under : n - 1 ≤ n = omega arith in
      let within : i < length (take n l) = rw (length-take-le n l k) h in
      sym (take-take (n - 1) n (set l i (get_or l (n - 1) d)) under)
      ∙ ap (take (n - 1)) (take-set-lt n l i (get_or l (n - 1) d) h)
      ∙ rw (swap_remove_index d (take n l) i within, length-take-le n l k, get_or-take n l (n - 1) d below)

  -- and leaves one element less
  pub swap_length : (d : A) (l : List A) (i : ℕ) → i < length l → length (swap_remove d i l) ≡ length l - 1
  swap_length d l i h = omega (arith, length_perm (swap_remove_out d l i h))

pub take_min : {A : Type 0} (m n : ℕ) (l : List A) → length l ≡ m → take (min m n) l ≡ take n l
take_min zero n [] e = let z : min 0 n ≡ 0 = omega arith in ap (λ (k : ℕ). take k []) z ∙ sym (lib.Seq.take-nil n)
take_min zero n (x ∷ l) e = absurd (omega arith)
take_min (suc m) zero l e = let z : min (suc m) 0 ≡ 0 = omega arith in ap (λ (k : ℕ). take k l) z
take_min (suc m) (suc n) [] e = absurd (omega arith)
take_min {A} (suc m) (suc n) (x ∷ l) e =
    let z : min (suc m) (suc n) ≡ suc (min m n) = omega arith in
    ap (λ (k : ℕ). take k (x ∷ l)) z ∙ ap {B = List A} (λ r. x ∷ r) (take_min m n l (omega arith))

pub first_sum_step : (l : List ℕ) (n i : ℕ) → i < n → n ≤ length l → sum (drop i (take n l)) ≡ get_or l i 0 + sum (drop (i + 1) (take n l))
unfolding sum
first_sum_step l n i h k = rw (drop_within n l i 0 h k)

pub first_sum_end : (l : List ℕ) (n i : ℕ) → n ≤ i → sum (drop i (take n l)) ≡ 0
unfolding sum
first_sum_end l n i h = rw (drop_past n i l h)

pub sum_take : (f : ℕ → ℕ) (n : ℕ) (l : List ℕ) → sum (map f (take n l)) ≤ sum (map f l)
sum_take f n l = omega (arith, sum_append f (take n l) (drop n l), ap (λ (r : List ℕ). sum (map f r)) (take-append-drop n l))

-- the elements at the first i indexes are those of a list, mapped
pub filled_more : (f : ℕ → ℕ) (l a : List ℕ) (i v : ℕ) → i < length l → i < length a → v ≡ f (get_or l i 0) → take i a ≡ map f (take i l)
    → take (i + 1) (set a i v) ≡ map f (take (i + 1) l)
filled_more f l a i v h k e so_far =
    ap (λ (n : ℕ). take n (set a i v)) (add-one i)
    ∙ take-suc-set a i v k
    ∙ ap (λ (r : List ℕ). r ++ (v ∷ [])) so_far
    ∙ ap (λ (x : ℕ). map f (take i l) ++ (x ∷ [])) e
    ∙ sym (map_append f (take i l) (get_or l i 0 ∷ []))
    ∙ ap (map f) (sym (take_next l i 0 h))

-- ---- cut off, and left

-- a list cut before more is put behind it, and cut again
pub take_cut : (n : ℕ) (l t : List ℕ) → take n (take n l ++ t) ≡ take n (l ++ t)
take_cut zero l t = refl
take_cut (suc n) [] t = refl
take_cut (suc n) (x ∷ l) t = ap (λ (r : List ℕ). x ∷ r) (take_cut n l t)

-- what is as found from a place on is as found from a later one on
pub drop_later : (l m : List ℕ) (b c : ℕ) → b ≤ c → drop b m ≡ drop b l → drop c m ≡ drop c l
drop_later l m b c h e =
    let f : b + (c - b) ≡ c = omega arith in
    ap (λ (k : ℕ). drop k m) (sym f) ∙ sym (drop-drop (c - b) b m) ∙ ap (drop (c - b)) e ∙ drop-drop (c - b) b l ∙ ap (λ (k : ℕ). drop k l) f

pub drop_least : (l : List ℕ) (at : ℕ) → drop (min at (length l)) l ≡ drop at l
drop_least [] at = drop-nil (min at 0) ∙ sym (drop-nil at)
drop_least (x ∷ l) zero = let e : min 0 (length (x ∷ l)) ≡ 0 = omega arith in rw e
drop_least (x ∷ l) (suc at) = let e : min (suc at) (suc (length l)) ≡ suc (min at (length l)) = omega arith in rw e (drop_least l at)

pub length_zero : {A : Type 0} (l : List A) → length l ≡ 0 → l ≡ []
length_zero [] e = refl
length_zero (x ∷ l) e = absurd (omega (arith, e))

pub not_empty : {A : Type 0} (l : List A) → (length l ≡ 0 → ⊥) → is_empty l ≡ false
not_empty [] h = absurd (h refl)
not_empty (x ∷ l) h = refl

-- ---- an element taken out

pub remove_at_mid : {A : Type 0} (p : List A) (x : A) (q : List A) (n : ℕ) → length p ≡ n → remove_at n (p ++ x ∷ q) ≡ p ++ q
unfolding remove_at
remove_at_mid [] x q zero e = refl
remove_at_mid [] x q (suc n) e = absurd (omega arith)
remove_at_mid (y ∷ p) x q zero e = absurd (omega arith)
remove_at_mid {A} (y ∷ p) x q (suc n) e = ap {B = List A} (λ r. y ∷ r) (remove_at_mid p x q n (omega arith))

module _ {A : Type 0} where
  pub remove_at_split : (j : ℕ) (l : List A) → remove_at j l ≡ take j l ++ drop (suc j) l
  unfolding remove_at
  remove_at_split zero [] = refl
  remove_at_split (suc j) [] = refl
  remove_at_split zero (x ∷ l) = refl
  remove_at_split (suc j) (x ∷ l) = ap (λ (r : List A). x ∷ r) (remove_at_split j l)

  pub take_remove_at : (m j : ℕ) (l : List A) → j ≤ m → take m (remove_at j l) ≡ remove_at j (take (suc m) l)
  unfolding remove_at
  take_remove_at zero zero [] h = refl
  take_remove_at zero zero (x ∷ l) h = refl
  take_remove_at zero (suc j) l h = absurd (not-suc-le-zero h)
  take_remove_at (suc m) zero [] h = refl
  take_remove_at (suc m) (suc j) [] h = refl
  take_remove_at (suc m) zero (x ∷ l) h = refl
  take_remove_at (suc m) (suc j) (x ∷ l) h = ap (λ (r : List A). x ∷ r) (take_remove_at m j l (le_of_suc-le-suc h))

module _ {A : Type 0} (d : A) where
  pub length_swap : (i j : ℕ) (xs : List A) → length (swap d i j xs) ≡ length xs
  unfolding swap
  length_swap i j xs = simp length-set

-- ---- zeros

pub drop_replicate : (n m v : ℕ) → drop n (replicate m v) ≡ replicate (m - n) v
drop_replicate zero m v = ap (λ (k : ℕ). replicate k v) (let e : m ≡ m - 0 = omega arith in e)
drop_replicate (suc n) zero v = ap (λ (k : ℕ). replicate k v) (let e : 0 ≡ 0 - suc n = omega arith in e)
drop_replicate (suc n) (suc m) v = drop_replicate n m v ∙ ap (λ (k : ℕ). replicate k v) (let e : m - n ≡ suc m - suc n = omega arith in e)

-- zeros, of which the first n are overwritten
pub zeros_behind : (front o : List ℕ) (n m : ℕ) → o ≡ front ++ drop n (replicate m 0) → o ≡ front ++ replicate (m - n) 0
zeros_behind front o n m e = e ∙ ap (λ (r : List ℕ). front ++ r) (drop_replicate n m 0)
