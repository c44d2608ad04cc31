-- Lengths of lists made from others, and sums over them.
use Prim.Native.Nat.{ℕ, zero, suc, ◌+◌, ◌*◌, ◌≤◌}
use native.Mathlib.Nat.{zero-mul, suc-mul, mul-suc, mul-zero}
use native.Mathlib.Omega.{arith}
use mathlib.Core.Path.{◌≡◌, refl, sym, ap, ◌∙◌}
use mathlib.Core.List.{List, [], ◌∷◌, ◌++◌, map}
use mathlib.Core.Option.{Option, none, some, some-injective, none-ne-some}
use lib.ListN.{length, length-append}
use Rattle.lists.specs.Base.{◌>>=◌, to_list, sum, count_from, concat_map, map_option}
use Rattle.lists.specs.Elements.{All}

pub length_count_from : (i n : ℕ) → length (count_from i n) ≡ n
unfolding count_from
length_count_from i zero = refl
length_count_from i (suc n) = ap suc (length_count_from (suc i) n)

module _ {A : Type 0} where
  pub sum_append : (f : A → ℕ) (xs ys : List A) → sum (map f (xs ++ ys)) ≡ sum (map f xs) + sum (map f ys)
  unfolding sum
  sum_append f [] ys = omega arith
  sum_append f (x ∷ xs) ys = omega (arith, sum_append f xs ys)

  -- each at most m
  pub sum_most : (f : A → ℕ) (m : ℕ) (xs : List A) → All (λ x. f x ≤ m) xs → sum (map f xs) ≤ m * length xs
  unfolding sum
  sum_most f m [] h = omega (arith, mul-zero m)
  sum_most f m (x ∷ xs) h = omega (arith, h.0, sum_most f m xs h.1, mul-suc m (length xs))

  pub at_most_one : (o : Option A) → length (to_list o) ≤ 1
  at_most_one none = omega arith
  at_most_one (some a) = omega arith

module _ {A B : Type 0} where
  pub length-map : (f : A → B) (xs : List A) → length (map f xs) ≡ length xs
  length-map f [] = refl
  length-map f (x ∷ xs) = ap suc (length-map f xs)

  pub map_append : (f : A → B) (xs ys : List A) → map f (xs ++ ys) ≡ map f xs ++ map f ys
  map_append f [] ys = refl
  map_append f (x ∷ xs) ys = ap {B = List B} (λ r. f x ∷ r) (map_append f xs ys)

  -- each n long
  pub length_concat_map : (n : ℕ) (f : A → List B) → ((x : A) → length (f x) ≡ n) → (xs : List A) → length (concat_map f xs) ≡ length xs * n
  unfolding concat_map
  length_concat_map n f h [] = sym (zero-mul n)
  length_concat_map n f h (x ∷ xs) = omega (arith, length-append (f x) (concat_map f xs), h x, length_concat_map n f h xs, suc-mul (length xs) n)

  -- as long as a count says
  pub length_counted : (n : A → ℕ) (f : A → List B) → ((x : A) → length (f x) ≡ n x) → (xs : List A) → length (concat_map f xs) ≡ sum (map n xs)
  unfolding concat_map sum
  length_counted n f h [] = refl
  length_counted n f h (x ∷ xs) = omega (arith, length-append (f x) (concat_map f xs), h x, length_counted n f h xs)

  pub length_options : (f : A → Option B) (xs : List A) → length (concat_map (λ x. to_list (f x)) xs) ≤ length xs
  unfolding concat_map
  length_options f [] = omega arith
  length_options f (x ∷ xs) = omega (arith, length-append (to_list (f x)) (concat_map (λ y. to_list (f y)) xs), at_most_one (f x), length_options f xs)

  pub length_map_option : (f : A → Option B) (xs : List A) (ys : List B) → map_option f xs ≡ some ys → length ys ≡ length xs
  unfolding map_option
  length_map_option f [] ys e = ap length (sym (some-injective [] ys e))
  length_map_option f (x ∷ xs) ys e = go (f x) (map_option f xs) (λ zs. length_map_option f xs zs) e
    where
      go : (o : Option B) (q : Option (List B)) → ((zs : List B) → q ≡ some zs → length zs ≡ length xs) → (o >>= λ y. q >>= λ zs. some (y ∷ zs)) ≡ some ys → length ys ≡ suc (length xs)
      go none q later k = absurd (none-ne-some ys k)
      go (some y) none later k = absurd (none-ne-some ys k)
      go (some y) (some zs) later k = ap length (sym (some-injective (y ∷ zs) ys k)) ∙ ap suc (later zs refl)
