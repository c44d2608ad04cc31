-- Laws of lists that candidates use: lists without repetition, and an element moved.
use Prim.Native.Nat.{ℕ, zero, suc, ◌+◌, ◌-◌, ◌≤◌, ◌<◌}
use native.Mathlib.Nat.{le_of_suc-le-suc, not-suc-le-zero}
use native.Mathlib.Omega.{arith}
use mathlib.Core.Path.{◌≡◌, refl, sym, ap, ap₂, ◌∙◌, subst}
use mathlib.Core.List.{List, [], ◌∷◌, ◌++◌, map, append_assoc}
use lib.ListN.{length, get_or, set, take, drop, take-append-drop, length-append}
use lib.Seq.{take-append-le, drop-append-le, length-take-le, take-nil}
use Rattle.lists.specs.Base.{count_from, range, remove_at}
use Rattle.lists.specs.Elements.{Perm, also, All, Pairs}
use Rattle.lists.proofs.Perm.{perm_sym, perm_middle, all_map, pairs_perm, remove_at_perm, length_remove_at}
use Rattle.lists.proofs.Counts.{count_rises}
use Rattle.lists.proofs.Every.{all_get, pairs_each}
use Rattle.lists.proofs.Maps.{map_same}
use Rattle.lists.proofs.Arrays.{remove_at_split, take_remove_at}
use Rattle.words.specs.Inserted.{with_word_at}
use Rattle.candidate.specs.Bins.{Other}

-- ---- lists without repetition

pub other_sym : (a b : ℕ) → Other a b → Other b a
other_sym a b h = λ e. h (sym e)

count_once : (i n : ℕ) → Pairs Other (count_from i n)
count_once i n = pairs_each (λ j k. j < k) Other (λ j k h e. absurd (omega arith)) (count_from i n) (count_rises i n)

pub perm_once : (n : ℕ) {l : List ℕ} → Perm l (range n) → Pairs Other l
perm_once n p = pairs_perm Other other_sym (perm_sym p) (count_once 0 n)

-- ---- maps

-- two functions that agree but at one number
module _ {B : Type 0} (f g : ℕ → B) (b : ℕ) (t : B) (there : g b ≡ t) (others : (x : ℕ) → Other x b → g x ≡ f x) where
  pub map_else : (l : List ℕ) → All (Other b) l → map g l ≡ map f l
  map_else l h = map_same f g l (all_map (Other b) (λ x. g x ≡ f x) (λ x k. others x (other_sym b x k)) l h)

  pub map_set : (l : List ℕ) (j : ℕ) → Pairs Other l → j < length l → get_or l j 0 ≡ b → map g l ≡ set (map f l) j t
  map_set [] j p k e = absurd (not-suc-le-zero k)
  map_set (x ∷ l) zero p k e = ap₂ {C = List B} (λ y ys. y ∷ ys) (ap g e ∙ there) (map_else l (subst (λ (y : ℕ). All (Other y) l) e p.0))
  map_set (x ∷ l) (suc j) p k e =
      let apart : Other x b = subst (Other x) e (all_get (Other x) l j 0 p.0 (le_of_suc-le-suc k)) in
      ap₂ {C = List B} (λ y ys. y ∷ ys) (others x apart) (map_set l j p.1 (le_of_suc-le-suc k) e)

-- ---- an element moved

module _ (x : ℕ) where
  -- moved down to index s from index j
  abbrev moved : List ℕ → ℕ → ℕ → List ℕ
  moved l j s = with_word_at (remove_at j l) s x

  -- as the loop leaves it
  pub moved_loop : (l : List ℕ) (j s : ℕ) → s ≤ j → j < length l → with_word_at (take j l) s x ++ drop (j + 1) l ≡ moved l j s
  moved_loop l j s h k =
      let rest : List ℕ = drop (suc j) l in
      let long : s ≤ length (take j l) = omega (arith, length-take-le j l (omega arith)) in
      let next : j + 1 ≡ suc j = omega arith in
      let whole : remove_at j l ≡ take j l ++ rest = remove_at_split j l in
      ap (λ (m : ℕ). with_word_at (take j l) s x ++ drop m l) next
      ∙ append_assoc (take s (take j l)) (x ∷ drop s (take j l)) rest
      ∙ ap₂ {C = List ℕ} (λ a b. a ++ (x ∷ b)) (sym (take-append-le s (take j l) rest long)) (sym (drop-append-le s (take j l) rest long))
      ∙ ap (λ (r : List ℕ). with_word_at r s x) (sym whole)

  -- within the first n
  pub moved_front : (n : ℕ) (l : List ℕ) (j s : ℕ) → s ≤ j → j < n → take n (moved l j s) ≡ moved (take n l) j s
  unfolding remove_at
  moved_front zero l j s h k = absurd (not-suc-le-zero k)
  moved_front (suc n) [] j zero h k = ap (λ (r : List ℕ). x ∷ r) (take-nil n)
  moved_front (suc n) [] j (suc s) h k = ap (λ (r : List ℕ). x ∷ r) (take-nil n)
  moved_front (suc n) (a ∷ l) zero zero h k = refl
  moved_front (suc zero) (a ∷ l) (suc j) zero h k = absurd (omega arith)
  moved_front (suc (suc n)) (a ∷ l) (suc j) zero h k = ap (λ (r : List ℕ). x ∷ a ∷ r) (take_remove_at n j l (omega arith))
  moved_front (suc n) (a ∷ l) zero (suc s) h k = absurd (not-suc-le-zero h)
  moved_front (suc n) (a ∷ l) (suc j) (suc s) h k = ap (λ (r : List ℕ). a ∷ r) (moved_front n l j s (le_of_suc-le-suc h) (le_of_suc-le-suc k))

  -- what stands before it, and what behind
  pub moved_parts : (s j : ℕ) (l : List ℕ) → s ≤ j → j < length l → moved l j s ≡ take s l ++ (x ∷ remove_at (j - s) (drop s l))
  unfolding remove_at
  moved_parts zero j l h k = let e : j ≡ j - 0 = omega arith in ap (λ (m : ℕ). x ∷ remove_at m l) e
  moved_parts (suc s) zero l h k = absurd (not-suc-le-zero h)
  moved_parts (suc s) (suc j) [] h k = absurd (not-suc-le-zero k)
  moved_parts (suc s) (suc j) (a ∷ l) h k =
      let e : j - s ≡ suc j - suc s = omega arith in
      ap (λ (r : List ℕ). a ∷ r) (moved_parts s j l (le_of_suc-le-suc h) (le_of_suc-le-suc k))
      ∙ ap (λ (m : ℕ). (a ∷ take s l) ++ (x ∷ remove_at m (drop s l))) e

pub moved_perm : (l : List ℕ) (j s : ℕ) → j < length l → Perm (with_word_at (remove_at j l) s (get_or l j 0)) l
moved_perm l j s k =
    let r : List ℕ = remove_at j l in
    also (perm_middle (take s r) (get_or l j 0) (drop s r))
    (subst (λ (q : List ℕ). Perm (get_or l j 0 ∷ q) l) (sym (take-append-drop s r)) (perm_sym (remove_at_perm 0 l j k)))

pub length_moved : (x : ℕ) (l : List ℕ) (j s : ℕ) → j < length l → length (with_word_at (remove_at j l) s x) ≡ length l
length_moved x l j s k =
    omega (
      arith,
      length-append (take s (remove_at j l)) (x ∷ drop s (remove_at j l)),
      length-append (take s (remove_at j l)) (drop s (remove_at j l)),
      ap length (take-append-drop s (remove_at j l)),
      length_remove_at l j k,
    )
