-- A number and its index, a row found by its key, and the numbers that are not among some.
use Rattle.std.specs.Prelude.{if◌then◌else◌}
use Prim.Native.Nat.{ℕ, suc, suc-le-suc, ◌+◌, ◌<◌}
use native.Mathlib.Nat.{zero-lt-suc}
use native.Mathlib.Omega.{arith}
use mathlib.Core.Path.{◌≡◌, refl, sym, ap, ap₂, ◌∙◌, subst}
use mathlib.Core.Logic.{◌⊎◌, inl, inr, ⊎_elim}
use mathlib.Core.Bool.{Bool, true, false, not, ◌||◌}
use mathlib.Core.List.Memᴰ
use mathlib.Core.List.{List, [], ◌∷◌, ◌++◌, map, Memᴰ}
use mathlib.Core.Option.{Option, none, some}
use lib.Dec.{T, eqb}
use lib.ListN.{length, get_or}
use borrow.Author.Tests.{eq-eqb, eqb-true, eqb-false}
use Rattle.lists.specs.Base.{◌<|>◌, any, retain, find, enumerate_from, enumerate, range}
use Rattle.lists.specs.Elements.{Perm, also, All, Pairs}
use Rattle.lists.proofs.Perm.{perm_sym, perm_append_left, perm_append_comm, all_map, all_self, pairs_perm}
use Rattle.lists.proofs.Kept.{retain_append, retain_none, retain_perm, retain_all}
use Rattle.lists.proofs.Every.{pairs_across}
use Rattle.candidate.proofs.Lists.{other_sym, perm_once}
use Rattle.candidate.specs.Bins.{Other}
use Rattle.candidate.specs.Keys.{elem}
use Rattle.candidate.proofs.evaluation.KeyNumbers.{none_numbered}
use Rattle.candidate.specs.Donated.{others_than, place_among}

-- ---- an index

index_head : (x y : ℕ) (l : List ℕ) → eqb y x ≡ true → place_among x (y ∷ l) ≡ 0
unfolding place_among
index_head x y l e = rw e

index_tail : (x y : ℕ) (l : List ℕ) → eqb y x ≡ false → place_among x (y ∷ l) ≡ suc (place_among x l)
unfolding place_among
index_tail x y l e = rw e

-- a number that is there is not at its first place: it is behind it
behind : (x y : ℕ) (l : List ℕ) → eqb y x ≡ false → Memᴰ x (y ∷ l) → Memᴰ x l
behind x y l e m = ⊎_elim (λ q. absurd (eqb-false y x e (sym q))) (λ k. k) (Memᴰ.cases_cons m)

abbrev pub IsAt : ℕ → List ℕ → ℕ → Type 0
IsAt x l k = (k < length l) × (get_or l k 0 ≡ x)

pub indexed : (x : ℕ) (l : List ℕ) → Memᴰ x l → IsAt x l (place_among x l)
indexed x [] m = absurd (Memᴰ.not-nil m)
indexed x (y ∷ l) m = go (eqb y x) refl (indexed x l)
  where
    go : (b : Bool) → eqb y x ≡ b → (Memᴰ x l → IsAt x l (place_among x l)) → IsAt x (y ∷ l) (place_among x (y ∷ l))
    go true e later = subst (IsAt x (y ∷ l)) (sym (index_head x y l e)) (zero-lt-suc (length l), eqb-true y x e)
    go false e later = let k = later (behind x y l e m) in subst (IsAt x (y ∷ l)) (sym (index_tail x y l e)) (suc-le-suc k.0, k.1)

-- what stands behind does not matter
pub index_append : (x : ℕ) (l more : List ℕ) → Memᴰ x l → place_among x (l ++ more) ≡ place_among x l
index_append x [] more m = absurd (Memᴰ.not-nil m)
index_append x (y ∷ l) more m = go (eqb y x) refl (index_append x l more)
  where
    go : (b : Bool) → eqb y x ≡ b → (Memᴰ x l → place_among x (l ++ more) ≡ place_among x l) → place_among x (y ∷ (l ++ more)) ≡ place_among x (y ∷ l)
    go true e later = index_head x y (l ++ more) e ∙ sym (index_head x y l e)
    go false e later = index_tail x y (l ++ more) e ∙ ap suc (later (behind x y l e m)) ∙ sym (index_tail x y l e)

-- ---- a row found by its key

-- the rows of numbers, the test of a row being that of its number
module _ {A : Type 0} (row : ℕ → A) (x : ℕ) (test : ℕ × A → Bool) where
  find_from : (i : ℕ) (l : List ℕ) → Memᴰ x l → All (λ y. (i : ℕ) → test (i, row y) ≡ eqb y x) l
      → find test (enumerate_from i (map row l)) ≡ some (i + place_among x l, row x)
  unfolding find enumerate_from
  find_from i [] m h = absurd (Memᴰ.not-nil m)
  find_from i (y ∷ l) m h = ap (λ (b : Bool). (if b then some (i, row y) else none) <|> find test (enumerate_from (suc i) (map row l))) (h.0 i) ∙ go (eqb y x) refl (λ k. find_from (suc i) l k h.1)
    where
      go : (b : Bool) → eqb y x ≡ b → (Memᴰ x l → find test (enumerate_from (suc i) (map row l)) ≡ some (suc i + place_among x l, row x))
          → ((if b then some (i, row y) else none) <|> find test (enumerate_from (suc i) (map row l))) ≡ some (i + place_among x (y ∷ l), row x)
      go true e later =
          let at : i ≡ i + place_among x (y ∷ l) = omega (arith, index_head x y l e) in
          ap₂ {C = Option (ℕ × A)} (λ (k : ℕ) (z : A). some (k, z)) at (ap row (eqb-true y x e))
      go false e later =
          let at : suc i + place_among x l ≡ i + place_among x (y ∷ l) = omega (arith, index_tail x y l e) in
          later (behind x y l e m) ∙ ap (λ (k : ℕ). some (k, row x)) at

  pub find_keyed : (l : List ℕ) → Memᴰ x l → All (λ y. (i : ℕ) → test (i, row y) ≡ eqb y x) l → find test (enumerate (map row l)) ≡ some (place_among x l, row x)
  find_keyed l m h = let e : 0 + place_among x l ≡ place_among x l = omega arith in find_from 0 l m h ∙ ap (λ (k : ℕ). some (k, row x)) e

-- ---- the numbers that are not among some

some_numbered : (k : ℕ) (ks : List ℕ) → Memᴰ k ks → elem k ks ≡ true
unfolding elem any
some_numbered k [] m = absurd (Memᴰ.not-nil m)
some_numbered k (j ∷ ks) m = go (Memᴰ.cases_cons m) (some_numbered k ks)
  where
    second : (b : Bool) → (b || true) ≡ true
    second true = refl
    second false = refl

    go : (k ≡ j) ⊎ Memᴰ k ks → (Memᴰ k ks → any (eqb k) ks ≡ true) → (eqb k j || any (eqb k) ks) ≡ true
    go (inl e) later = rw (eq-eqb k j e)
    go (inr n) later = rw (later n) (second (eqb k j))

pub others_perm : (ks rest : List ℕ) (n : ℕ) → Perm (ks ++ rest) (range n) → Perm (ks ++ others_than ks n) (range n)
unfolding others_than
others_perm ks rest n p =
    let q : ℕ → Bool = λ k. not (elem k ks) in
    let apart : Pairs Other (rest ++ ks) = pairs_perm Other other_sym (perm_append_comm ks rest) (perm_once n p) in
    let gone : retain q ks ≡ [] =
    retain_none q ks (all_map (λ k. Memᴰ k ks) (λ k. T (not (q k))) (λ k m. subst (λ (b : Bool). T (not (not b))) (sym (some_numbered k ks m)) tt) ks (all_self ks))
    in
    let stay : retain q rest ≡ rest =
    retain_all q rest (all_map (λ k. All (Other k) ks) (λ k. T (q k)) (λ k h. subst (λ (b : Bool). T (not b)) (sym (none_numbered k ks h)) tt) rest (pairs_across Other rest ks apart))
    in
    let left : Perm (retain q (range n)) rest = rw (retain_append q ks rest, gone, stay) at (retain_perm q (perm_sym p)) in
    also (perm_append_left ks left) p
