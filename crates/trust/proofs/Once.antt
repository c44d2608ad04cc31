-- Counting by keys: a list in which every panel lies once and nothing else is the panels in some order, and boards that differ and are all
-- on the rack leave the others.
use Rattle.std.specs.Prelude.{if◌then◌else◌}
use Prim.Native.Nat.{ℕ, suc}
use native.Mathlib.Omega.{arith}
use mathlib.Core.Path.{◌≡◌, refl, sym, ap, ◌∙◌, subst}
use mathlib.Core.Logic.{◌⊎◌, inl, inr}
use mathlib.Core.Bool.{Bool, true, false, not}
use mathlib.Core.List.{List, [], ◌∷◌, ◌++◌, map, Memᴰ}
use lib.Dec.{T, T_not}
use lib.ListN.{length}
use Rattle.lists.specs.Base.{retain}
use Rattle.lists.specs.Elements.{Perm, done, keep, also, All, Pairs}
use Rattle.model.specs.declared.CutInstance.{CutInstance}
use Rattle.model.specs.declared.InstanceKey.{InstanceKey}
use Rattle.model.specs.Types.{cut_key, same_key}
use Rattle.trust.specs.Admitted.{Differ, Distinct}
use Rattle.lists.proofs.Perm.{perm_refl, perm_sym, all_both, all_perm, map_perm, length_perm, mem_perm, in_all}
use Rattle.lists.proofs.Every.{map_all}
use Rattle.lists.proofs.Kept.{retain_none, retain_perm}
use Rattle.lists.proofs.Booleans.{is_true, is_false}
use Rattle.trust.proofs.Candidate.{differ_sym, same_key_refl}
use Rattle.trust.proofs.Lists.{FirstOf, all_first}

-- ---- how often a key is there

abbrev pub times : InstanceKey → List CutInstance → ℕ
times k xs = length (retain (same_key k) (map cut_key xs))

pub times_perm : (k : InstanceKey) {xs ys : List CutInstance} → Perm xs ys → times k xs ≡ times k ys
times_perm k p = length_perm (retain_perm (same_key k) (map_perm cut_key p))

times_same : (k : InstanceKey) (x : CutInstance) (xs : List CutInstance) → T (same_key k (cut_key x)) → times k (x ∷ xs) ≡ suc (times k xs)
unfolding retain
times_same k x xs t = rw (is_true (same_key k (cut_key x)) t)

times_other : (k : InstanceKey) (x : CutInstance) (xs : List CutInstance) → T (not (same_key k (cut_key x))) → times k (x ∷ xs) ≡ times k xs
unfolding retain
times_other k x xs t = rw (is_false (same_key k (cut_key x)) t)

-- a key that is there is an element's
there : (k : InstanceKey) (n : ℕ) (xs : List CutInstance) → times k xs ≡ suc n → (x : CutInstance) × Memᴰ x xs × T (same_key k (cut_key x))
unfolding retain
there k n [] e = absurd (omega arith)
there k n (x ∷ xs) e = go (same_key k (cut_key x)) refl e (there k n xs)
  where
    go : (b : Bool) → same_key k (cut_key x) ≡ b
        → length (if b then cut_key x ∷ retain (same_key k) (map cut_key xs) else retain (same_key k) (map cut_key xs)) ≡ suc n
        → (times k xs ≡ suc n → (y : CutInstance) × Memᴰ y xs × T (same_key k (cut_key y))) → (y : CutInstance) × Memᴰ y (x ∷ xs) × T (same_key k (cut_key y))
    go true f h later = (x, mathlib.Core.List.Memᴰ.head refl, subst T (sym f) tt)
    go false f h later =
        let r = later h in
        (r.0, mathlib.Core.List.Memᴰ.tail r.1, r.2)

-- a key that is not there is no element's
not_there : (k : InstanceKey) (xs : List CutInstance) → times k xs ≡ 0 → All (λ x. T (not (same_key k (cut_key x)))) xs
unfolding retain
not_there k [] e = tt
not_there k (x ∷ xs) e = go (same_key k (cut_key x)) refl e (not_there k xs)
  where
    go : (b : Bool) → same_key k (cut_key x) ≡ b → length (if b then cut_key x ∷ retain (same_key k) (map cut_key xs) else retain (same_key k) (map cut_key xs)) ≡ 0
        → (times k xs ≡ 0 → All (λ y. T (not (same_key k (cut_key y)))) xs) → All (λ y. T (not (same_key k (cut_key y)))) (x ∷ xs)
    go true f h later = absurd (omega arith)
    go false f h later = (subst (λ (b : Bool). T (not b)) (sym f) tt, later h)

absent : (k : InstanceKey) (xs : List CutInstance) → All (λ x. T (not (same_key k (cut_key x)))) xs → times k xs ≡ 0
absent k xs h = ap length (retain_none (same_key k) (map cut_key xs) (map_all (λ x. T (not (same_key k (cut_key x)))) _ cut_key (λ x t. t) xs h))

-- ---- every panel once, and nothing else

-- among an element and others that differ from it, one of its key is that element
first_of_key : (c : CutInstance) (cs : List CutInstance) (x : CutInstance) → All (Differ c) cs → Memᴰ x (c ∷ cs) → T (same_key (cut_key c) (cut_key x)) → x ≡ c
first_of_key c cs x d m t = go (mathlib.Core.List.Memᴰ.cases_cons m)
  where
    go : (x ≡ c) ⊎ Memᴰ x cs → x ≡ c
    go (inl e) = e
    go (inr k) = absurd (T_not (same_key (cut_key c) (cut_key x)) (in_all (Differ c) cs d k) t)

-- one of another key is one of the others
other_of_key : (c : CutInstance) (cs : List CutInstance) (x : CutInstance) → Memᴰ x (c ∷ cs) → Differ c x → Memᴰ x cs
other_of_key c cs x m d = go (mathlib.Core.List.Memᴰ.cases_cons m)
  where
    go : (x ≡ c) ⊎ Memᴰ x cs → Memᴰ x cs
    go (inl e) = absurd (T_not (same_key (cut_key c) (cut_key x)) d (subst (λ (y : CutInstance). T (same_key (cut_key c) (cut_key y))) (sym e) (same_key_refl (cut_key c))))
    go (inr k) = k

pub once_perm : (cs xs : List CutInstance) → Distinct cs → All (λ x. Memᴰ x cs) xs → All (λ c. times (cut_key c) xs ≡ 1) cs → Perm xs cs
once_perm [] [] d m h = done
once_perm [] (x ∷ xs) d m h = absurd (mathlib.Core.List.Memᴰ.not-nil m.0)
once_perm (c ∷ cs) xs d m h =
    let t = there (cut_key c) 0 xs h.0 in
    let same : t.0 ≡ c = first_of_key c cs t.0 d.0 (in_all (λ x. Memᴰ x (c ∷ cs)) xs m t.1) t.2 in
    let f : FirstOf xs c = subst (FirstOf xs) same (in_all (FirstOf xs) xs (all_first xs) t.1) in
    let ys = f.rest in
    let others : All (Differ c) ys =
    not_there (cut_key c) ys (omega (arith, h.0, times_perm (cut_key c) f.first, times_same (cut_key c) c ys (same_key_refl (cut_key c))))
    in
    let known : All (λ y. Memᴰ y cs) ys = all_both (λ y. Memᴰ y (c ∷ cs)) (Differ c) _ (λ y n e. other_of_key c cs y n e) ys (all_perm _ f.first m).1 others in
    let counts : All (λ e. times (cut_key e) ys ≡ 1) cs =
    all_both (λ e. times (cut_key e) xs ≡ 1) (Differ c) _
    (λ e n k. sym (times_other (cut_key e) c ys (differ_sym c e k)) ∙ sym (times_perm (cut_key e) f.first) ∙ n) cs h.1 d.0
    in
    also f.first (keep c (once_perm cs ys d.1 known counts))

-- among different panels each key is there once
pub own_once : (cs : List CutInstance) → Distinct cs → All (λ c. times (cut_key c) cs ≡ 1) cs
own_once [] d = tt
own_once (c ∷ cs) d = (
  times_same (cut_key c) c cs (same_key_refl (cut_key c)) ∙ ap suc (absent (cut_key c) cs d.0),
  all_both (λ x. times (cut_key x) cs ≡ 1) (Differ c) _ (λ x h k. times_other (cut_key x) c cs (differ_sym c x k) ∙ h) cs (own_once cs d.1) d.0,
)

-- ---- some of a list, each once

pub record Rest {A : Type 0} (xs ys : List A) : Type 0 where
  pub rest : List A
  pub perm : Perm (xs ++ rest) ys

pub rest_of : {A : Type 0} (R : A → A → Type 0) → ((x : A) → R x x → ⊥) → (xs ys : List A) → Pairs R xs → All (λ x. Memᴰ x ys) xs → Rest xs ys
rest_of R irr [] ys d m = record { rest = ys; perm = perm_refl ys }
rest_of {A} R irr (x ∷ xs) ys d m =
    let f = in_all (FirstOf ys) ys (all_first ys) m.0 in
    let r = rest_of R irr xs f.rest d.1 (all_both (R x) (λ y. Memᴰ y ys) _ (λ y h k. behind y f.rest h (mem_perm f.first k)) xs d.0 m.1) in
    record { rest = r.rest; perm = also (keep x r.perm) (perm_sym f.first) }
  where
    behind : (y : A) (zs : List A) → R x y → Memᴰ y (x ∷ zs) → Memᴰ y zs
    behind y zs h k = go (mathlib.Core.List.Memᴰ.cases_cons k)
      where
        go : (y ≡ x) ⊎ Memᴰ y zs → Memᴰ y zs
        go (inl e) = absurd (irr x (subst (R x) e h))
        go (inr n) = n
