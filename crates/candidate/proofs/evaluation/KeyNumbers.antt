-- Where keys are distinct, two numbers are equal exactly if their keys are: tests of keys are tests of numbers.
use Prim.Native.Nat.{ℕ, zero, suc, ◌<◌}
use native.Mathlib.Nat.{le_of_suc-le-suc, not-suc-le-zero}
use mathlib.Core.Path.{◌≡◌, refl, sym, ap, ap₂, ◌∙◌, subst}
use mathlib.Core.Bool.{Bool, true, false, not, ◌||◌}
use mathlib.Core.List.{List, [], ◌∷◌, map}
use lib.Dec.{T, eqb}
use lib.ListN.{length, get_or}
use borrow.Author.Tests.{ne_eqb, eqb-true, eqb-false}
use Rattle.lists.specs.Base.{any}
use Rattle.lists.specs.Elements.{All, Pairs}
use Rattle.lists.proofs.Booleans.{is_true, is_false}
use Rattle.lists.proofs.Every.{all_get}
use Rattle.model.specs.declared.CutInstance.{CutInstance}
use Rattle.model.specs.declared.InstanceKey.{InstanceKey}
use Rattle.model.specs.Types.{same_key, cut_key}
use Rattle.model.specs.Candidate.{contains_key, has_duplicate_keys}
use Rattle.trust.specs.Admitted.{Differ}
use Rattle.trust.proofs.Candidate.{same_key_refl}
use Rattle.trust.proofs.Crossover.{key_sym}
use Rattle.candidate.specs.Bins.{Other}
use Rattle.candidate.specs.Keys.{elem, repeats}

-- ---- one key

module _ {A : Type 0} (key : A → InstanceKey) (d : A) where
  abbrev pub Apart : A → A → Type 0
  Apart a b = T (not (same_key (key a) (key b)))

  turned : (a b : A) → same_key (key b) (key a) ≡ false → same_key (key a) (key b) ≡ false
  turned a b e = go (same_key (key a) (key b)) refl
    where
      go : (t : Bool) → same_key (key a) (key b) ≡ t → t ≡ false
      go true f = let z : ◌≡◌ {A = Bool} true false = sym (is_true (same_key (key b) (key a)) (key_sym (key a) (key b) (subst T (sym f) tt))) ∙ e in z
      go false f = refl

  apart_at : (l : List A) (i j : ℕ) → Pairs Apart l → i < length l → j < length l → (i ≡ j → ⊥) → same_key (key (get_or l i d)) (key (get_or l j d)) ≡ false
  apart_at [] i j p h k n = absurd (not-suc-le-zero h)
  apart_at (x ∷ l) zero zero p h k n = absurd (n refl)
  apart_at (x ∷ l) zero (suc j) p h k n = is_false _ (all_get (Apart x) l j d p.0 (le_of_suc-le-suc k))
  apart_at (x ∷ l) (suc i) zero p h k n = turned (get_or l i d) x (is_false _ (all_get (Apart x) l i d p.0 (le_of_suc-le-suc h)))
  apart_at (x ∷ l) (suc i) (suc j) p h k n = apart_at l i j p.1 (le_of_suc-le-suc h) (le_of_suc-le-suc k) (λ e. n (ap suc e))

  module _ (l : List A) (apart : Pairs Apart l) where
    pub same_number : (i j : ℕ) → i < length l → j < length l → same_key (key (get_or l i d)) (key (get_or l j d)) ≡ eqb i j
    same_number i j h k = go (eqb i j) refl
      where
        go : (t : Bool) → eqb i j ≡ t → same_key (key (get_or l i d)) (key (get_or l j d)) ≡ t
        go true e = ap (λ (m : ℕ). same_key (key (get_or l i d)) (key (get_or l m d))) (sym (eqb-true i j e)) ∙ is_true _ (same_key_refl (key (get_or l i d)))
        go false e = apart_at l i j apart h k (eqb-false i j e)

    -- one element has one number
    pub number_once : (i j : ℕ) → i < length l → j < length l → get_or l i d ≡ get_or l j d → i ≡ j
    number_once i j h k e =
        eqb-true i j
        (sym (same_number i j h k) ∙ ap (λ (a : A). same_key (key (get_or l i d)) (key a)) (sym e) ∙ is_true _ (same_key_refl (key (get_or l i d))))

    abbrev key_at : ℕ → InstanceKey
    key_at i = key (get_or l i d)

    pub contains_number : (i : ℕ) (ks : List ℕ) → i < length l → All (λ k. k < length l) ks → contains_key (key_at i) (map key_at ks) ≡ elem i ks
    unfolding contains_key elem any
    contains_number i [] h k = refl
    contains_number i (j ∷ ks) h k = ap₂ (λ (a b : Bool). a || b) (same_number i j h k.0) (contains_number i ks h k.1)

-- ---- no duplicates

none_keyed : (c : CutInstance) (cs : List CutInstance) → All (Differ c) cs → contains_key (cut_key c) (map cut_key cs) ≡ false
unfolding contains_key any
none_keyed c [] h = refl
none_keyed c (x ∷ cs) h = ap₂ (λ (a b : Bool). a || b) (is_false (same_key (cut_key c) (cut_key x)) h.0) (none_keyed c cs h.1)

pub no_key_twice : (cs : List CutInstance) → Pairs Differ cs → has_duplicate_keys (map cut_key cs) ≡ false
unfolding has_duplicate_keys
no_key_twice [] h = refl
no_key_twice (c ∷ cs) h = ap₂ (λ (a b : Bool). a || b) (none_keyed c cs h.0) (no_key_twice cs h.1)

pub none_numbered : (k : ℕ) (ks : List ℕ) → All (Other k) ks → elem k ks ≡ false
unfolding elem any
none_numbered k [] h = refl
none_numbered k (j ∷ ks) h = ap₂ (λ (a b : Bool). a || b) (ne_eqb k j h.0) (none_numbered k ks h.1)

pub no_number_twice : (ks : List ℕ) → Pairs Other ks → repeats ks ≡ false
unfolding repeats
no_number_twice [] h = refl
no_number_twice (k ∷ ks) h = ap₂ (λ (a b : Bool). a || b) (none_numbered k ks h.0) (no_number_twice ks h.1)
