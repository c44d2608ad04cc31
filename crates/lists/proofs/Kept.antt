-- What is kept of a list by a test.
use Rattle.std.specs.Prelude.{if◌then◌else◌}
use Prim.Native.Nat.{◌+◌, ◌≤◌, suc, ℕ}
use native.Mathlib.Omega.{arith}
use mathlib.Core.Path.{◌∙◌, ◌≡◌, ap, refl, subst, sym}
use mathlib.Core.Bool.{Bool, false, not, true}
use mathlib.Core.List.{[], ◌++◌, ◌∷◌, List, map}
use lib.Dec.{T}
use lib.ListN.{length}
use Rattle.lists.specs.Base.{retain, sum}
use Rattle.lists.specs.Elements.{Perm, done, keep, flip, also, All}
use Rattle.lists.proofs.Booleans.{is_false}
use Rattle.lists.proofs.Perm.{all_map, perm_middle, perm_refl}

pub retain_append : {A : Type 0} (p : A → Bool) (xs ys : List A) → retain p (xs ++ ys) ≡ retain p xs ++ retain p ys
unfolding retain
retain_append p [] ys = refl
retain_append {A} p (x ∷ xs) ys = go (p x) (retain_append p xs ys)
  where
    go : (b : Bool) → retain p (xs ++ ys) ≡ retain p xs ++ retain p ys
        → (if b then x ∷ retain p (xs ++ ys) else retain p (xs ++ ys)) ≡ (if b then x ∷ retain p xs else retain p xs) ++ retain p ys
    go true e = ap {B = List A} (λ r. x ∷ r) e
    go false e = e

pub retain_all : {A : Type 0} (p : A → Bool) (xs : List A) → All (λ x. T (p x)) xs → retain p xs ≡ xs
unfolding retain
retain_all p [] h = refl
retain_all {A} p (x ∷ xs) h = go (p x) h.0 (retain_all p xs h.1)
  where
    go : (b : Bool) → T b → retain p xs ≡ xs → (if b then x ∷ retain p xs else retain p xs) ≡ x ∷ xs
    go true t e = ap {B = List A} (λ r. x ∷ r) e
    go false t e = absurd t

pub retain_none : {A : Type 0} (p : A → Bool) (xs : List A) → All (λ x. T (not (p x))) xs → retain p xs ≡ []
unfolding retain
retain_none p [] h = refl
retain_none {A} p (x ∷ xs) h = rw (is_false (p x) h.0) (retain_none p xs h.1)

pub retain_perm : {A : Type 0} (p : A → Bool) {xs ys : List A} → Perm xs ys → Perm (retain p xs) (retain p ys)
unfolding retain
retain_perm p done = done
retain_perm p (keep x {xs} {ys} q) = go (p x) (retain_perm p q)
  where
    go : (b : Bool) → Perm (retain p xs) (retain p ys) → Perm (if b then x ∷ retain p xs else retain p xs) (if b then x ∷ retain p ys else retain p ys)
    go true r = keep x r
    go false r = r
retain_perm p (flip x y xs) = go (p x) (p y)
  where
    go : (a b : Bool) → Perm (if a then x ∷ (if b then y ∷ retain p xs else retain p xs) else (if b then y ∷ retain p xs else retain p xs))
        (if b then y ∷ (if a then x ∷ retain p xs else retain p xs) else (if a then x ∷ retain p xs else retain p xs))
    go true true = flip x y (retain p xs)
    go true false = perm_refl (x ∷ retain p xs)
    go false true = perm_refl (y ∷ retain p xs)
    go false false = perm_refl (retain p xs)
retain_perm p (also q r) = also (retain_perm p q) (retain_perm p r)

pub retain_sub : {A : Type 0} (P : A → Type 0) (p : A → Bool) (xs : List A) → All P xs → All (λ x. P x × T (p x)) (retain p xs)
unfolding retain
retain_sub P p [] h = tt
retain_sub {A} P p (x ∷ xs) h = go (p x) refl (retain_sub P p xs h.1)
  where
    go : (b : Bool) → p x ≡ b → All (λ y. P y × T (p y)) (retain p xs) → All (λ y. P y × T (p y)) (if b then x ∷ retain p xs else retain p xs)
    go true e k = ((h.0, subst T (sym e) tt), k)
    go false e k = k

-- what all have, those kept have
pub retain_some : {A : Type 0} (p : A → Bool) (P : A → Type 0) (xs : List A) → All P xs → All P (retain p xs)
retain_some p P xs h = all_map (λ x. P x × T (p x)) P (λ x k. k.0) (retain p xs) (retain_sub P p xs h)

pub length_retain : {A : Type 0} (p : A → Bool) (l : List A) → length (retain p l) ≤ length l
unfolding retain
length_retain p [] = omega arith
length_retain {A} p (x ∷ l) = go (p x) (length_retain p l)
  where
    go : (b : Bool) → length (retain p l) ≤ length l → length (if b then x ∷ retain p l else retain p l) ≤ suc (length l)
    go true h = omega arith
    go false h = omega arith

module _ {A B : Type 0} (f : A → B) (p : B → Bool) (q : A → Bool) where
  pub retain_map : (l : List A) → All (λ x. p (f x) ≡ q x) l → retain p (map f l) ≡ map f (retain q l)
  unfolding retain
  retain_map [] h = refl
  retain_map (x ∷ l) h = ap (λ (b : Bool). if b then f x ∷ retain p (map f l) else retain p (map f l)) h.0 ∙ go (q x) (retain_map l h.1)
    where
      go : (b : Bool) → retain p (map f l) ≡ map f (retain q l) → (if b then f x ∷ retain p (map f l) else retain p (map f l)) ≡ map f (if b then x ∷ retain q l else retain q l)
      go true e = ap (λ (r : List B). f x ∷ r) e
      go false e = e

module _ {A : Type 0} (p : A → Bool) where
  -- of what is kept by a wider test, the same is kept
  pub retain_wider : (q : A → Bool) → ((x : A) → p x ≡ true → q x ≡ true) → (l : List A) → retain p (retain q l) ≡ retain p l
  unfolding retain
  retain_wider q h [] = refl
  retain_wider q h (x ∷ l) = out (q x) (retain q l) ∙ go (p x) (q x) (h x) (retain p (retain q l)) (retain p l) (retain_wider q h l)
    where
      out : (b : Bool) (m : List A) → retain p (if b then x ∷ m else m) ≡ (if b then (if p x then x ∷ retain p m else retain p m) else retain p m)
      out true m = refl
      out false m = refl

      go : (a b : Bool) → (a ≡ true → b ≡ true) → (m n : List A) → m ≡ n → (if b then (if a then x ∷ m else m) else m) ≡ (if a then x ∷ n else n)
      go true true f m n e = ap (λ (r : List A). x ∷ r) e
      go true false f m n e = let g = f refl in let z : ◌≡◌ {A = ℕ} 0 1 = cc in absurd (omega arith)
      go false true f m n e = e
      go false false f m n e = e

-- those not kept and those kept are all
pub parted : {A : Type 0} (p : A → Bool) (l : List A) → Perm (retain (λ x. not (p x)) l ++ retain p l) l
unfolding retain
parted p [] = done
parted {A} p (x ∷ l) = go (p x) (parted p l)
  where
    go : (b : Bool) → Perm (retain (λ y. not (p y)) l ++ retain p l) l
        → Perm ((if not b then x ∷ retain (λ y. not (p y)) l else retain (λ y. not (p y)) l) ++ (if b then x ∷ retain p l else retain p l)) (x ∷ l)
    go true h = also (perm_middle (retain (λ y. not (p y)) l) x (retain p l)) (keep x h)
    go false h = keep x h

pub sum_retain : (f : ℕ → ℕ) (p : ℕ → Bool) (l : List ℕ) → sum (map f (retain p l)) ≤ sum (map f l)
unfolding sum retain
sum_retain f p [] = omega arith
sum_retain f p (x ∷ l) = go (p x) (sum_retain f p l)
  where
    go : (b : Bool) → sum (map f (retain p l)) ≤ sum (map f l) → sum (map f (if b then x ∷ retain p l else retain p l)) ≤ f x + sum (map f l)
    go true h = omega arith
    go false h = omega arith
