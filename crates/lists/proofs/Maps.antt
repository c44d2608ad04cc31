-- A map through the other operations, and lists made of one list for each element.
use Rattle.std.specs.Prelude.{if◌then◌else◌}
use Prim.Native.Nat.{◌<◌, suc, zero, ℕ}
use native.Mathlib.Nat.{le_of_suc-le-suc, not-suc-le-zero}
use native.Mathlib.Omega.{arith}
use mathlib.Core.Path.{◌∙◌, ◌≡◌, ap, ap₂, refl, sym}
use mathlib.Core.Bool.{Bool, false, true}
use mathlib.Core.List.{[], ◌++◌, ◌∷◌, List, append_assoc, append-nil, map}
use mathlib.Core.Option.{Option, none-ne-some, some-injective, some}
use lib.ListN.{get_or, length, set, take}
use Rattle.lists.specs.Base.{concat_map, first_best, foldl, keep_best, remove_at, swap}
use Rattle.lists.specs.Elements.{All}
use Rattle.lists.proofs.Sums.{length-map}

pub map-map : {A B C : Type 0} (g : B → C) (f : A → B) (l : List A) → map g (map f l) ≡ map (λ x. g (f x)) l
map-map g f [] = refl
map-map {C} g f (x ∷ l) = ap {B = List C} (λ r. g (f x) ∷ r) (map-map g f l)

pub get_d_map : {A B : Type 0} (f : A → B) (l : List A) (k : ℕ) (e : B) (d : A) → k < length l → get_or (map f l) k e ≡ f (get_or l k d)
get_d_map f [] k e d h = absurd (not-suc-le-zero h)
get_d_map f (x ∷ l) zero e d h = refl
get_d_map f (x ∷ l) (suc k) e d h = get_d_map f l k e d (le_of_suc-le-suc h)

-- owning an array of structs says the length of the list of their parts; `search counted` makes of it the length of the list
pub counted : (X Y : Type 0) (f : X → Y) (l : List X) (n : ℕ) → length (map f l) ≡ n → length l ≡ n
counted X Y f l n e = sym (length-map f l) ∙ e

module _ {A B : Type 0} where
  pub map_same : (f g : A → B) (l : List A) → All (λ x. g x ≡ f x) l → map g l ≡ map f l
  map_same f g [] h = refl
  map_same f g (x ∷ l) h = ap₂ {C = List B} (λ y ys. y ∷ ys) h.0 (map_same f g l h.1)

  pub map_remove_at : (f : A → B) (i : ℕ) (l : List A) → map f (remove_at i l) ≡ remove_at i (map f l)
  unfolding remove_at
  map_remove_at f i [] = refl
  map_remove_at f zero (x ∷ l) = refl
  map_remove_at f (suc i) (x ∷ l) = ap {B = List B} (λ r. f x ∷ r) (map_remove_at f i l)

pub map_take : {A B : Type 0} (f : A → B) (n : ℕ) (l : List A) → map f (take n l) ≡ take n (map f l)
map_take f zero l = refl
map_take f (suc n) [] = refl
map_take {A} {B} f (suc n) (x ∷ l) = ap {B = List B} (λ r. f x ∷ r) (map_take f n l)

pub map_next : {A : Type 0} (f : ℕ → A) (l : List ℕ) (j : ℕ) → j < length l → take (suc j) (map f l) ≡ take j (map f l) ++ (f (get_or l j 0) ∷ [])
map_next f [] j h = absurd (omega arith)
map_next f (x ∷ l) zero h = refl
map_next {A} f (x ∷ l) (suc j) h = ap {B = List A} (λ r. f x ∷ r) (map_next f l j (omega arith))

module _ {A B : Type 0} (f : A → B) where
  pub map_set : (xs : List A) (i : ℕ) (v : A) → map f (set xs i v) ≡ set (map f xs) i (f v)
  map_set [] i v = refl
  map_set (x ∷ xs) zero v = refl
  map_set (x ∷ xs) (suc i) v = ap {B = List B} (λ r. f x ∷ r) (map_set xs i v)

  pub map_swap : (d : A) (e : B) (i j : ℕ) (xs : List A) → i < length xs → j < length xs → map f (swap d i j xs) ≡ swap e i j (map f xs)
  unfolding swap
  map_swap d e i j xs h k =
      map_set (set xs i (get_or xs j d)) j (get_or xs i d)
      ∙ ap (λ (ys : List B). set ys j (f (get_or xs i d))) (map_set xs i (get_or xs j d))
      ∙ ap₂ (λ (u v : B). set (set (map f xs) i u) j v) (sym (get_d_map f xs j e d k)) (sym (get_d_map f xs i e d h))

-- ---- the best of a map

module _ {A B : Type 0} (f : A → B) (R : A → A → Bool) (S : B → B → Bool) (P : A → Type 0) (agree : (a b : A) → P a → P b → S (f a) (f b) ≡ R a b) where
  keep_best_map : (x : A) (xs : List A) → P x → All P xs → keep_best S (f x) (map f xs) ≡ f (keep_best R x xs)
  unfolding keep_best
  keep_best_map x [] h k = refl
  keep_best_map x (y ∷ xs) h k =
      ap (λ (b : Bool). keep_best S (if b then f y else f x) (map f xs)) (agree y x k.0 h) ∙ go (R y x) (keep_best_map y xs k.0 k.1) (keep_best_map x xs h k.1)
    where
      go : (b : Bool) → keep_best S (f y) (map f xs) ≡ f (keep_best R y xs) → keep_best S (f x) (map f xs) ≡ f (keep_best R x xs)
          → keep_best S (if b then f y else f x) (map f xs) ≡ f (keep_best R (if b then y else x) xs)
      go true e g = e
      go false e g = g

  pub first_best_map : (xs : List A) (a : A) → All P xs → first_best R xs ≡ some a → first_best S (map f xs) ≡ some (f a)
  unfolding first_best
  first_best_map [] a h e = absurd (none-ne-some a e)
  first_best_map (x ∷ xs) a h e = ap {B = Option B} some (keep_best_map x xs h.0 h.1 ∙ ap f (some-injective _ _ e))

-- ---- one list for each element

pub concat_map_append : {A B : Type 0} (f : A → List B) (xs ys : List A) → concat_map f (xs ++ ys) ≡ concat_map f xs ++ concat_map f ys
unfolding concat_map
concat_map_append f [] ys = refl
concat_map_append f (x ∷ xs) ys = ap (λ r. f x ++ r) (concat_map_append f xs ys) ∙ sym (append_assoc (f x) (concat_map f xs) (concat_map f ys))

pub concat_map_snoc : {A B : Type 0} (f : A → List B) (xs : List A) (x : A) → concat_map f (xs ++ (x ∷ [])) ≡ concat_map f xs ++ f x
unfolding concat_map
concat_map_snoc f [] x = append-nil (f x)
concat_map_snoc {A} {B} f (y ∷ xs) x = ap (λ (r : List B). f y ++ r) (concat_map_snoc f xs x) ∙ sym (append_assoc (f y) (concat_map f xs) (f x))

pub concat_map_map : {A B C : Type 0} (f : B → List C) (g : A → B) (xs : List A) → concat_map f (map g xs) ≡ concat_map (λ x. f (g x)) xs
unfolding concat_map
concat_map_map f g [] = refl
concat_map_map {C} f g (x ∷ xs) = ap (λ (r : List C). f (g x) ++ r) (concat_map_map f g xs)

pub concat_map_concat_map : {A B C : Type 0} (f : B → List C) (g : A → List B) (xs : List A) → concat_map (λ x. concat_map f (g x)) xs ≡ concat_map f (concat_map g xs)
unfolding concat_map
concat_map_concat_map f g [] = refl
concat_map_concat_map {C} f g (x ∷ xs) = ap (λ (r : List C). concat_map f (g x) ++ r) (concat_map_concat_map f g xs) ∙ sym (concat_map_append f (g x) (concat_map g xs))

-- ---- a fold

pub foldl_snoc : {A B : Type 0} (f : B → A → B) (b : B) (xs : List A) (x : A) → foldl f b (xs ++ (x ∷ [])) ≡ f (foldl f b xs) x
unfolding foldl
foldl_snoc f b [] x = refl
foldl_snoc f b (y ∷ xs) x = foldl_snoc f (f b y) xs x
