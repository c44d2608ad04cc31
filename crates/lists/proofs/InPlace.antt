-- The list operations in the form that code on counted parts has, and the sizes that bound those parts.
use Rattle.std.specs.Prelude.{if◌then◌else◌}
use Prim.Native.Nat.{ℕ, suc, ◌-◌, ◌<◌, Ordering}
use native.Mathlib.Nat.{not-suc-le-zero}
use native.Mathlib.Omega.{arith}
use mathlib.Core.Path.{◌≡◌, refl, sym, ap, ◌∙◌}
use mathlib.Core.Bool.{Bool, true, false, true≢false, false≢true}
use mathlib.Core.List.{List, [], ◌∷◌, ◌++◌}
use lib.ListN.{length, get_or, take, set, length-set}
use Rattle.lists.specs.Base.{is_greater, last_or, drop_last, swap_remove, insert_by, sort_by}

module _ {A : Type 0} where
  -- ---- swap_remove by index

  drop_last_take : (xs : List A) → drop_last xs ≡ take (length xs - 1) xs
  unfolding drop_last
  drop_last_take [] = refl
  drop_last_take (x ∷ []) = refl
  drop_last_take (x ∷ y ∷ ys) =
      let one : suc (length (y ∷ ys)) - 1 ≡ suc (length (y ∷ ys) - 1) = omega arith in
      ap {B = List A} (λ r. x ∷ r) (drop_last_take (y ∷ ys)) ∙ ap (λ (n : ℕ). take n (x ∷ y ∷ ys)) (sym one)

  last_or_get_or : (d x : A) (xs : List A) → last_or d (x ∷ xs) ≡ get_or (x ∷ xs) (length xs) d
  unfolding last_or
  last_or_get_or d x [] = refl
  last_or_get_or d x (y ∷ ys) = last_or_get_or d y ys

  pub swap_remove_index : (d : A) (xs : List A) (i : ℕ) → i < length xs → swap_remove d i xs ≡ take (length xs - 1) (set xs i (get_or xs (length xs - 1) d))
  unfolding swap_remove
  swap_remove_index d [] i h = absurd (not-suc-le-zero h)
  swap_remove_index d (x ∷ xs) i h =
      let last : length (x ∷ xs) - 1 ≡ length xs = omega arith in
      drop_last_take (set (x ∷ xs) i (last_or d (x ∷ xs)))
      ∙ ap (λ (n : ℕ). take (n - 1) (set (x ∷ xs) i (last_or d (x ∷ xs)))) (length-set (x ∷ xs) i (last_or d (x ∷ xs)))
      ∙ ap (λ (v : A). take (length (x ∷ xs) - 1) (set (x ∷ xs) i v)) (last_or_get_or d x xs ∙ ap (λ (n : ℕ). get_or (x ∷ xs) n d) (sym last))

  -- ---- insertion sort from the left

  -- an element that follows goes behind those that compare equal
  unfoldable pub insert_after : (A → A → Ordering) → A → List A → List A
  insert_after cmp x [] = x ∷ []
  insert_after cmp x (y ∷ ys) = let later = y ∷ insert_after cmp x ys in if is_greater (cmp y x) then x ∷ y ∷ ys else later

  module _ (cmp : A → A → Ordering)
      (above : (a b c : A) → is_greater (cmp a b) ≡ true → is_greater (cmp b c) ≡ true → is_greater (cmp a c) ≡ true)
      (upto : (a b c : A) → is_greater (cmp a b) ≡ false → is_greater (cmp b c) ≡ false → is_greater (cmp a c) ≡ false) where
    insert_comm : (z x : A) (s : List A) → insert_by cmp z (insert_after cmp x s) ≡ insert_after cmp x (insert_by cmp z s)
    unfolding insert_by insert_after
    insert_comm z x [] = refl
    insert_comm z x (y ∷ s) = go (is_greater (cmp y x)) refl (is_greater (cmp z y)) refl (is_greater (cmp z x)) refl (insert_comm z x s)
      where
        go : (a : Bool) → is_greater (cmp y x) ≡ a → (b : Bool) → is_greater (cmp z y) ≡ b → (c : Bool) → is_greater (cmp z x) ≡ c
            → insert_by cmp z (insert_after cmp x s) ≡ insert_after cmp x (insert_by cmp z s)
            → insert_by cmp z (if a then x ∷ y ∷ s else y ∷ insert_after cmp x s) ≡ insert_after cmp x (if b then y ∷ insert_by cmp z s else z ∷ y ∷ s)
        go true e true f true g ih = rw (g, f, e)
        go true e true f false g ih = absurd (true≢false (sym (above z y x f e) ∙ g))
        go true e false f true g ih = rw (g, f)
        go true e false f false g ih = rw (g, e)
        go false e true f c g ih = rw (f, e) (ap {B = List A} (λ r. y ∷ r) ih)
        go false e false f true g ih = absurd (false≢true (sym (upto z y x f e) ∙ g))
        go false e false f false g ih = rw (f, g, e)

    pub sort_snoc : (xs : List A) (x : A) → sort_by cmp (xs ++ (x ∷ [])) ≡ insert_after cmp x (sort_by cmp xs)
    unfolding sort_by insert_by insert_after
    sort_snoc [] x = refl
    sort_snoc (z ∷ xs) x = ap (insert_by cmp z) (sort_snoc xs x) ∙ insert_comm z x (sort_by cmp xs)
