-- What holds of all elements of a list, and of all pairs of them.
use Rattle.std.specs.Prelude.{if◌then◌else◌}
use Prim.Native.Nat.{◌<◌, suc, zero, ℕ}
use native.Mathlib.Nat.{le_of_suc-le-suc, not-suc-le-zero}
use mathlib.Core.Path.{◌∙◌, ◌≡◌, ap, refl}
use mathlib.Core.Bool.{◌||◌, Bool, false, true}
use mathlib.Core.List.{[], ◌++◌, ◌∷◌, List, Memᴰ, map}
use lib.Dec.{T}
use lib.ListN.{drop, get_or, length, take}
use Rattle.lists.specs.Base.{any, concat_map, remove_at}
use Rattle.lists.specs.Elements.{Perm, done, keep, flip, also, All, Pairs}
use Rattle.lists.proofs.Perm.{all_append, all_left, all_map}

module _ {A : Type 0} where
  -- what holds of each element holds of the i-th
  pub all_get : (P : A → Type 0) (l : List A) (i : ℕ) (d : A) → All P l → i < length l → P (get_or l i d)
  all_get P [] i d a h = absurd (not-suc-le-zero h)
  all_get P (x ∷ xs) zero d a h = a.0
  all_get P (x ∷ xs) (suc i) d a h = all_get P xs i d a.1 (le_of_suc-le-suc h)

  pub get_mem : (l : List A) (i : ℕ) (d : A) → i < length l → Memᴰ (get_or l i d) l
  get_mem [] i d k = absurd (not-suc-le-zero k)
  get_mem (x ∷ l) zero d k = Memᴰ.head refl
  get_mem (x ∷ l) (suc i) d k = Memᴰ.tail (get_mem l i d (le_of_suc-le-suc k))

pub all_take : {A : Type 0} (P : A → Type 0) (n : ℕ) (xs : List A) → All P xs → All P (take n xs)
all_take P zero xs h = tt
all_take P (suc n) [] h = tt
all_take P (suc n) (x ∷ xs) h = (h.0, all_take P n xs h.1)

pub all_drop : {A : Type 0} (P : A → Type 0) (n : ℕ) (xs : List A) → All P xs → All P (drop n xs)
all_drop P zero xs h = h
all_drop P (suc n) [] h = tt
all_drop P (suc n) (x ∷ xs) h = all_drop P n xs h.1

pub all_remove_at : {A : Type 0} (P : A → Type 0) (i : ℕ) (xs : List A) → All P xs → All P (remove_at i xs)
unfolding remove_at
all_remove_at P i [] h = tt
all_remove_at P zero (x ∷ xs) h = h.1
all_remove_at P (suc i) (x ∷ xs) h = (h.0, all_remove_at P i xs h.1)

pub all_any : {A : Type 0} (xs : List A) → All (λ x. Unit {0}) xs
all_any [] = tt
all_any (x ∷ xs) = (tt, all_any xs)

-- one element or none
pub all_if : {A : Type 0} (P : A → Type 0) (b : Bool) (x : A) → (T b → P x) → All P (if b then x ∷ [] else [])
all_if P true x h = (h tt, tt)
all_if P false x h = tt

pub all_flip : {A B : Type 0} (R : A → B → Type 0) (xs : List A) (ys : List B) → All (λ y. All (λ x. R x y) xs) ys → All (λ x. All (λ y. R x y) ys) xs
all_flip R [] ys a = tt
all_flip R (x ∷ xs) ys a = (all_map _ _ (λ y t. t.0) ys a, all_flip R xs ys (all_map _ _ (λ y t. t.1) ys a))

-- ---- through a map

pub map_all : {A B : Type 0} (Q : A → Type 0) (P : B → Type 0) (f : A → B) → ((x : A) → Q x → P (f x)) → (xs : List A) → All Q xs → All P (map f xs)
map_all Q P f g [] h = tt
map_all Q P f g (x ∷ xs) h = (g x h.0, map_all Q P f g xs h.1)

pub all_of_map : {A B : Type 0} (P : B → Type 0) (f : A → B) (xs : List A) → All P (map f xs) → All (λ x. P (f x)) xs
all_of_map P f [] h = tt
all_of_map P f (x ∷ xs) h = (h.0, all_of_map P f xs h.1)

pub all_map_any : {A B : Type 0} (P : B → Type 0) (f : A → B) → ((x : A) → P (f x)) → (xs : List A) → All P (map f xs)
all_map_any P f g [] = tt
all_map_any P f g (x ∷ xs) = (g x, all_map_any P f g xs)

pub concat_map_all : {A B : Type 0} (Q : A → Type 0) (P : B → Type 0) (f : A → List B) → ((x : A) → Q x → All P (f x)) → (xs : List A) → All Q xs → All P (concat_map f xs)
unfolding concat_map
concat_map_all Q P f g [] h = tt
concat_map_all Q P f g (x ∷ xs) h = all_append P (f x) (concat_map f xs) (g x h.0) (concat_map_all Q P f g xs h.1)

-- ---- pairs

pub pairs_left : {A : Type 0} (R : A → A → Type 0) (xs ys : List A) → Pairs R (xs ++ ys) → Pairs R xs
pairs_left R [] ys h = tt
pairs_left R (x ∷ xs) ys h = (all_left (R x) xs ys h.0, pairs_left R xs ys h.1)

pub pairs_each : {A : Type 0} (R S : A → A → Type 0) → ((x y : A) → R x y → S x y) → (xs : List A) → Pairs R xs → Pairs S xs
pairs_each R S f [] h = tt
pairs_each R S f (x ∷ xs) h = (all_map (R x) (S x) (f x) xs h.0, pairs_each R S f xs h.1)

pub pairs_take : {A : Type 0} (R : A → A → Type 0) (n : ℕ) (xs : List A) → Pairs R xs → Pairs R (take n xs)
pairs_take R zero xs h = tt
pairs_take R (suc n) [] h = tt
pairs_take R (suc n) (x ∷ xs) h = (all_take (R x) n xs h.0, pairs_take R n xs h.1)

pub pairs_map : {A B : Type 0} (R : A → A → Type 0) (S : B → B → Type 0) (f : A → B) → ((a b : A) → R a b → S (f a) (f b)) → (xs : List A) → Pairs R xs → Pairs S (map f xs)
pairs_map R S f g [] h = tt
pairs_map R S f g (x ∷ xs) h = (map_all (R x) (S (f x)) f (λ y k. g x y k) xs h.0, pairs_map R S f g xs h.1)

module _ {A : Type 0} where
  pub pairs_across : (R : A → A → Type 0) (a b : List A) → Pairs R (a ++ b) → All (λ x. All (R x) b) a
  pairs_across R [] b h = tt
  pairs_across R (x ∷ a) b h = (right a h.0, pairs_across R a b h.1)
    where
      right : (c : List A) → All (R x) (c ++ b) → All (R x) b
      right [] k = k
      right (y ∷ c) k = right c k.1

  -- what stands before the last is in relation to it
  pub pairs_last : (R : A → A → Type 0) (xs : List A) (y : A) → Pairs R (xs ++ (y ∷ [])) → All (λ x. R x y) xs
  pairs_last R [] y h = tt
  pairs_last R (x ∷ xs) y h = (last xs h.0, pairs_last R xs y h.1)
    where
      last : (xs : List A) → All (R x) (xs ++ (y ∷ [])) → R x y
      last [] k = k.0
      last (z ∷ xs) k = last xs k.1

-- ---- tests

pub any_append : {A : Type 0} (p : A → Bool) (xs ys : List A) → any p (xs ++ ys) ≡ (any p xs || any p ys)
unfolding any
any_append p [] ys = refl
any_append p (x ∷ xs) ys = go (p x) (any_append p xs ys)
  where
    go : (b : Bool) → any p (xs ++ ys) ≡ (any p xs || any p ys) → (b || any p (xs ++ ys)) ≡ ((b || any p xs) || any p ys)
    go true e = refl
    go false e = e

pub any_perm : {A : Type 0} (p : A → Bool) {xs ys : List A} → Perm xs ys → any p xs ≡ any p ys
unfolding any
any_perm p done = refl
any_perm p (keep x e) = ap (λ (b : Bool). p x || b) (any_perm p e)
any_perm p (flip x y xs) = swap_or (p x) (p y) (any p xs)
  where
    swap_or : (a b c : Bool) → (a || (b || c)) ≡ (b || (a || c))
    swap_or true true c = refl
    swap_or true false c = refl
    swap_or false b c = refl
any_perm p (also e f) = any_perm p e ∙ any_perm p f
