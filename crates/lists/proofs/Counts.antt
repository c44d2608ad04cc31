-- Numbers counted from one on, and a list by its indexes.
use Prim.Native.Nat.{◌+◌, ◌<◌, ◌≤◌, suc, suc-le-suc, zero, ℕ}
use native.Mathlib.Nat.{add-zero, le_of_suc-le-suc, not-suc-le-zero, suc-add, zero-add, zero-lt-suc}
use native.Mathlib.Omega.{arith}
use mathlib.Core.Path.{◌∙◌, ◌≡◌, ap, ap₂, refl, sym}
use mathlib.Core.List.{[], ◌++◌, ◌∷◌, List, append_assoc, append-nil, map}
use lib.ListN.{get_or, length, set, take}
use lib.Seq.{take_all, take-suc-set}
use Rattle.lists.specs.Base.{concat_map, count_from, enumerate, enumerate_from, range}
use Rattle.lists.specs.Elements.{All, Pairs}
use Rattle.lists.proofs.Every.{all_any}
use Rattle.lists.proofs.Maps.{map-map, map_same}
use Rattle.lists.proofs.Perm.{all_map}
use Rattle.lists.proofs.Sums.{length_count_from, length-map}

pub count_snoc : (i n : ℕ) → count_from i (suc n) ≡ count_from i n ++ ((i + n) ∷ [])
unfolding count_from
count_snoc i zero = let e : i ≡ i + 0 = omega arith in ap (λ (m : ℕ). m ∷ []) e
count_snoc i (suc n) =
    let e : suc i + n ≡ i + suc n = omega arith in
    ap {B = List ℕ} (λ r. i ∷ r) (count_snoc (suc i) n ∙ ap (λ (m : ℕ). count_from (suc i) n ++ (m ∷ [])) e)

pub count_suc : (i n : ℕ) → count_from (suc i) n ≡ map suc (count_from i n)
unfolding count_from
count_suc i zero = refl
count_suc i (suc n) = ap {B = List ℕ} (λ r. suc i ∷ r) (count_suc (suc i) n)

pub take_count : (i n m : ℕ) → n ≤ m → take n (count_from i m) ≡ count_from i n
unfolding count_from
take_count i zero m h = refl
take_count i (suc n) zero h = absurd (not-suc-le-zero h)
take_count i (suc n) (suc m) h = ap (λ (r : List ℕ). i ∷ r) (take_count (suc i) n m (le_of_suc-le-suc h))

pub get_or_count : (i n k : ℕ) → k < n → get_or (count_from i n) k 0 ≡ i + k
unfolding count_from
get_or_count i zero k h = absurd (not-suc-le-zero h)
get_or_count i (suc n) zero h = omega arith
get_or_count i (suc n) (suc k) h = let e : suc i + k ≡ i + suc k = omega arith in get_or_count (suc i) n k (le_of_suc-le-suc h) ∙ e

-- ---- which they are

count_bounds : (i n : ℕ) → All (λ k. (i ≤ k) × (k < i + n)) (count_from i n)
unfolding count_from
count_bounds i zero = tt
count_bounds i (suc n) =
    ((omega arith, omega arith), all_map (λ k. (suc i ≤ k) × (k < suc i + n)) (λ k. (i ≤ k) × (k < i + suc n)) (λ k h. (omega arith, omega arith)) (count_from (suc i) n) (count_bounds (suc i) n))

pub count_below : (i n : ℕ) → All (λ k. k < i + n) (count_from i n)
count_below i n = all_map (λ k. (i ≤ k) × (k < i + n)) (λ k. k < i + n) (λ k h. h.1) (count_from i n) (count_bounds i n)

pub range_below : (n : ℕ) → All (λ k. k < n) (range n)
range_below n = all_map (λ k. (0 ≤ k) × (k < 0 + n)) (λ k. k < n) (λ k h. omega arith) (range n) (count_bounds 0 n)

pub count_from_lem : (i n : ℕ) → All (λ k. i ≤ k) (count_from i n)
count_from_lem i n = all_map (λ k. (i ≤ k) × (k < i + n)) (λ k. i ≤ k) (λ k h. h.0) (count_from i n) (count_bounds i n)

pub count_rises : (i n : ℕ) → Pairs (λ j k. j < k) (count_from i n)
unfolding count_from
count_rises i zero = tt
count_rises i (suc n) = (count_from_lem (suc i) n, count_rises (suc i) n)

-- ---- an array that is filled with them

-- a turn of the loop that fills a list with them
pub range_more : (n : ℕ) (d : List ℕ) → n < length d → take n d ≡ range n → take (n + 1) (set d n n) ≡ range (n + 1)
range_more n d h e =
    let z : 0 + n ≡ n = omega arith in
    let s : suc n ≡ n + 1 = omega arith in
    ap (λ (m : ℕ). take m (set d n n)) (sym s)
    ∙ take-suc-set d n n h
    ∙ ap (λ (r : List ℕ). r ++ (n ∷ [])) e
    ∙ ap (λ (m : ℕ). range n ++ (m ∷ [])) (sym z)
    ∙ sym (count_snoc 0 n)
    ∙ ap range s

pub range_all : (n : ℕ) (d : List ℕ) → length d ≡ n → take n d ≡ range n → d ≡ range n
range_all n d e h = sym (take_all n d (omega arith)) ∙ h

-- ---- what is made of each

pub length_count_map : {A : Type 0} (f : ℕ → A) (i n : ℕ) → length (map f (count_from i n)) ≡ n
length_count_map f i n = length-map f (count_from i n) ∙ length_count_from i n

pub get_or_count_from : {A : Type 0} (f : ℕ → A) (d : A) (i n k : ℕ) → k < n → get_or (map f (count_from i n)) k d ≡ f (i + k)
unfolding count_from
get_or_count_from f d i zero k h = absurd (not-suc-le-zero h)
get_or_count_from f d i (suc n) zero h = let e : i ≡ i + 0 = omega arith in ap f e
get_or_count_from f d i (suc n) (suc k) h =
    let e : suc i + k ≡ i + suc k = omega arith in
    get_or_count_from f d (suc i) n k (le_of_suc-le-suc h) ∙ ap f e

pub get_or_range : {A : Type 0} (f : ℕ → A) (d : A) (n k : ℕ) → k < n → get_or (map f (range n)) k d ≡ f k
get_or_range f d n k h = let e : 0 + k ≡ k = omega arith in get_or_count_from f d 0 n k h ∙ ap f e

module _ {A : Type 0} (d : A) where
  map_from : (f : ℕ → A) (k : ℕ) (l : List A) → ((i : ℕ) → i < length l → f (k + i) ≡ get_or l i d) → map f (count_from k (length l)) ≡ l
  unfolding count_from
  map_from f k [] h = refl
  map_from f k (x ∷ l) h =
      let here : f k ≡ x = ap f (sym (add-zero k)) ∙ h 0 (zero-lt-suc (length l)) in
      let later = map_from f (suc k) l (λ i b. let e : suc k + i ≡ k + suc i = omega arith in ap f e ∙ h (suc i) (suc-le-suc b)) in
      ap₂ {C = List A} (λ y ys. y ∷ ys) here later

  pub map_range : (f : ℕ → A) (l : List A) → ((i : ℕ) → i < length l → f i ≡ get_or l i d) → map f (range (length l)) ≡ l
  map_range f l h = map_from f 0 l (λ i b. ap f (zero-add i) ∙ h i b)

  -- a list by its indexes
  pub map_get : (l : List A) → map (λ k. get_or l k d) (range (length l)) ≡ l
  map_get l = map_range (λ k. get_or l k d) l (λ i h. refl)

  enumerate_from_range : (i : ℕ) (xs : List A) → enumerate_from i xs ≡ map (λ k. (i + k, get_or xs k d)) (range (length xs))
  unfolding enumerate_from count_from
  enumerate_from_range i [] = refl
  enumerate_from_range i (x ∷ xs) =
      let here : i ≡ i + 0 = omega arith in
      let at : ℕ → ℕ × A = λ k. (i + k, get_or (x ∷ xs) k d) in
      let behind : enumerate_from (suc i) xs ≡ map at (count_from 1 (length xs)) =
      enumerate_from_range (suc i) xs
      ∙ map_same (λ k. at (suc k)) (λ k. (suc i + k, get_or xs k d)) (range (length xs))
      (all_map (λ k. Unit {0}) (λ k. (suc i + k, get_or xs k d) ≡ at (suc k)) (λ k u. let e : suc i + k ≡ i + suc k = omega arith in ap (λ (m : ℕ). (m, get_or xs k d)) e) (range (length xs)) (all_any (range (length xs))))
      ∙ sym (map-map at suc (range (length xs)))
      ∙ ap (map at) (sym (count_suc 0 (length xs)))
      in
      ap₂ {C = List (ℕ × A)} (λ m r. (m, x) ∷ r) here behind

  pub enumerate_range : (xs : List A) → enumerate xs ≡ map (λ k. (k, get_or xs k d)) (range (length xs))
  enumerate_range xs =
      enumerate_from_range 0 xs
      ∙ map_same (λ k. (k, get_or xs k d)) (λ k. (0 + k, get_or xs k d)) (range (length xs))
      (all_map (λ k. Unit {0}) (λ k. (0 + k, get_or xs k d) ≡ (k, get_or xs k d)) (λ k u. let e : 0 + k ≡ k = omega arith in ap (λ (m : ℕ). (m, get_or xs k d)) e) (range (length xs)) (all_any (range (length xs))))

pub values : {A : Type 0} (i : ℕ) (xs : List A) → map (λ e. e.1) (enumerate_from i xs) ≡ xs
unfolding enumerate_from
values i [] = refl
values {A} i (x ∷ xs) = ap {B = List A} (λ r. x ∷ r) (values (suc i) xs)

module _ (f : ℕ → List ℕ) where
  pub counted_split : (i n m : ℕ) → concat_map f (count_from i (n + m)) ≡ concat_map f (count_from i n) ++ concat_map f (count_from (i + n) m)
  unfolding concat_map count_from
  counted_split i zero m =
      let e : i + 0 ≡ i = omega arith in
      ap (λ (k : ℕ). concat_map f (count_from i k)) (zero-add m) ∙ ap (λ (k : ℕ). concat_map f (count_from k m)) (sym e)
  counted_split i (suc n) m =
      let e : suc i + n ≡ i + suc n = omega arith in
      ap (λ (k : ℕ). concat_map f (count_from i k)) (suc-add n m)
      ∙ ap (λ (r : List ℕ). f i ++ r) (counted_split (suc i) n m ∙ ap (λ (k : ℕ). concat_map f (count_from (suc i) n) ++ concat_map f (count_from k m)) e)
      ∙ sym (append_assoc (f i) (concat_map f (count_from (suc i) n)) (concat_map f (count_from (i + suc n) m)))

  pub counted_next : (i : ℕ) → concat_map f (range i) ++ f i ≡ concat_map f (range (i + 1))
  unfolding concat_map count_from
  counted_next i =
      sym (counted_split 0 i 1 ∙ ap (λ (r : List ℕ). concat_map f (range i) ++ r) (append-nil (f (0 + i)) ∙ ap f (zero-add i)))

-- the same texts counted from one further on
pub counted_later : (f g : ℕ → List ℕ) (i n : ℕ) → ((k : ℕ) → f (suc k) ≡ g k) → concat_map f (count_from (suc i) n) ≡ concat_map g (count_from i n)
unfolding concat_map count_from
counted_later f g i zero h = refl
counted_later f g i (suc n) h = λ j. h i j ++ counted_later f g (suc i) n h j
