-- Lists up to order: what holds of all elements, of all pairs, or of a sum does not depend on the order of a list.
-- The free rectangles are swap-removed and merged, so every law of a sheet goes through these.
use Rattle.std.specs.Prelude.{if◌then◌else◌}
use Prim.Native.Nat.{ℕ, zero, suc, ◌+◌, ◌<◌, Ordering}
use native.Mathlib.Nat.{le_of_suc-le-suc, not-suc-le-zero, add_left_comm}
use mathlib.Core.Bool.{Bool, true, false}
use mathlib.Core.Path.{◌≡◌, refl, sym, ap, ◌∙◌, subst}
use mathlib.Core.Logic.{◌⊎◌, inl, inr}
use mathlib.Core.List.Memᴰ
use mathlib.Core.List.{List, [], ◌∷◌, ◌++◌, map, append-nil, append_assoc, Memᴰ, nil≢cons, cons≢nil, head-eq_of_cons-eq, tail-eq_of_cons-eq}
use lib.ListN.{length, get_or, set}
use Rattle.lists.specs.Base.{is_greater, sum, concat_map, last_or, drop_last, remove_at, swap_remove, swap, insert_by, sort_by}
use Rattle.lists.specs.Elements.{Perm, done, keep, flip, also, All, Pairs}

module _ {A : Type 0} where
  pub perm_refl : (xs : List A) → Perm xs xs
  perm_refl [] = done
  perm_refl (x ∷ xs) = keep x (perm_refl xs)

  pub perm_sym : {xs ys : List A} → Perm xs ys → Perm ys xs
  perm_sym done = done
  perm_sym (keep x p) = keep x (perm_sym p)
  perm_sym (flip x y xs) = flip y x xs
  perm_sym (also p q) = also (perm_sym q) (perm_sym p)

  pub perm_append_left : (zs : List A) {xs ys : List A} → Perm xs ys → Perm (zs ++ xs) (zs ++ ys)
  perm_append_left [] p = p
  perm_append_left (z ∷ zs) p = keep z (perm_append_left zs p)

  -- an element in the middle comes first
  pub perm_middle : (xs : List A) (y : A) (ys : List A) → Perm (xs ++ y ∷ ys) (y ∷ xs ++ ys)
  perm_middle [] y ys = perm_refl (y ∷ ys)
  perm_middle (x ∷ xs) y ys = also (keep x (perm_middle xs y ys)) (flip x y (xs ++ ys))

  pub perm_append_right : {xs ys : List A} (zs : List A) → Perm xs ys → Perm (xs ++ zs) (ys ++ zs)
  perm_append_right zs done = perm_refl zs
  perm_append_right zs (keep x p) = keep x (perm_append_right zs p)
  perm_append_right zs (flip x y xs) = flip x y (xs ++ zs)
  perm_append_right zs (also p q) = also (perm_append_right zs p) (perm_append_right zs q)

  pub perm_append_comm : (xs ys : List A) → Perm (xs ++ ys) (ys ++ xs)
  perm_append_comm [] ys = rw append-nil (perm_refl ys)
  perm_append_comm (x ∷ xs) ys = also (keep x (perm_append_comm xs ys)) (perm_sym (perm_middle ys x xs))

  -- ---- what does not depend on the order

  pub all_map : (P Q : A → Type 0) → ((x : A) → P x → Q x) → (xs : List A) → All P xs → All Q xs
  all_map P Q f [] h = tt
  all_map P Q f (x ∷ xs) h = (f x h.0, all_map P Q f xs h.1)

  pub all_append : (P : A → Type 0) (xs ys : List A) → All P xs → All P ys → All P (xs ++ ys)
  all_append P [] ys h k = k
  all_append P (x ∷ xs) ys h k = (h.0, all_append P xs ys h.1 k)

  pub all_left : (P : A → Type 0) (xs ys : List A) → All P (xs ++ ys) → All P xs
  all_left P [] ys h = tt
  all_left P (x ∷ xs) ys h = (h.0, all_left P xs ys h.1)

  pub all_right : (P : A → Type 0) (xs ys : List A) → All P (xs ++ ys) → All P ys
  all_right P [] ys h = h
  all_right P (x ∷ xs) ys h = all_right P xs ys h.1

  pub all_both : (P Q R : A → Type 0) → ((x : A) → P x → Q x → R x) → (xs : List A) → All P xs → All Q xs → All R xs
  all_both P Q R f [] h k = tt
  all_both P Q R f (x ∷ xs) h k = (f x h.0 k.0, all_both P Q R f xs h.1 k.1)

  pub all_perm : (P : A → Type 0) {xs ys : List A} → Perm xs ys → All P xs → All P ys
  all_perm P done h = h
  all_perm P (keep x p) h = (h.0, all_perm P p h.1)
  all_perm P (flip x y xs) h = (h.1.0, (h.0, h.1.1))
  all_perm P (also p q) h = all_perm P q (all_perm P p h)

  pub pairs_perm : (R : A → A → Type 0) → ((x y : A) → R x y → R y x) → {xs ys : List A} → Perm xs ys → Pairs R xs → Pairs R ys
  pairs_perm R s done h = h
  pairs_perm R s (keep x p) h = (all_perm (R x) p h.0, pairs_perm R s p h.1)
  pairs_perm R s (flip x y xs) h = ((s x y h.0.0, h.1.0), (h.0.1, h.1.1))
  pairs_perm R s (also p q) h = pairs_perm R s q (pairs_perm R s p h)

  pub mem_perm : {a : A} {xs ys : List A} → Perm xs ys → Memᴰ a xs → Memᴰ a ys
  mem_perm done m = m
  mem_perm {a} (keep x {xs} {ys} p) m = go (Memᴰ.cases_cons m) (mem_perm p)
    where
      go : (a ≡ x) ⊎ Memᴰ a xs → (Memᴰ a xs → Memᴰ a ys) → Memᴰ a (x ∷ ys)
      go (inl e) later = Memᴰ.head e
      go (inr k) later = Memᴰ.tail (later k)
  mem_perm {a} (flip x y xs) m = go (Memᴰ.cases_cons m)
    where
      next : (a ≡ y) ⊎ Memᴰ a xs → Memᴰ a (y ∷ x ∷ xs)
      next (inl e) = Memᴰ.head e
      next (inr k) = Memᴰ.tail (Memᴰ.tail k)

      go : (a ≡ x) ⊎ Memᴰ a (y ∷ xs) → Memᴰ a (y ∷ x ∷ xs)
      go (inl e) = Memᴰ.tail (Memᴰ.head e)
      go (inr k) = next (Memᴰ.cases_cons k)
  mem_perm (also p q) m = mem_perm q (mem_perm p m)

  pub length_perm : {xs ys : List A} → Perm xs ys → length xs ≡ length ys
  length_perm done = refl
  length_perm (keep x p) = ap suc (length_perm p)
  length_perm (flip x y xs) = refl
  length_perm (also p q) = length_perm p ∙ length_perm q

  pub sum_perm : (f : A → ℕ) {xs ys : List A} → Perm xs ys → sum (map f xs) ≡ sum (map f ys)
  unfolding sum
  sum_perm f done = refl
  sum_perm f (keep x p) = ap (λ (n : ℕ). f x + n) (sum_perm f p)
  sum_perm f (flip x y xs) = add_left_comm (f x) (f y) (sum (map f xs))
  sum_perm f (also p q) = sum_perm f p ∙ sum_perm f q

  -- ---- an element taken away on both sides

  -- axs is xs with an a put in somewhere
  data Ins (a : A) : List A → List A → Type 0 where
    here : {x : A} {xs : List A} → a ≡ x → Ins a xs (x ∷ xs)
    there : {y : A} {xs axs : List A} → Ins a xs axs → Ins a (y ∷ xs) (y ∷ axs)

  record Without (a : A) (xs bs : List A) : Type 0 where
    less : List A
    ins : Ins a less bs
    perm : Perm xs less

  ins_cons≢nil : {a : A} {xs axs : List A} → Ins a xs axs → axs ≡ [] → ⊥
  ins_cons≢nil (here e) q = cons≢nil q
  ins_cons≢nil (there i) q = cons≢nil q

  ins_perm : {a : A} {xs as' bs : List A} → Perm as' bs → Ins a xs as' → Without a xs bs
  ins_perm done i = absurd (ins_cons≢nil i refl)
  ins_perm (keep x {xs = us} {ys = vs} p) (here e) = record { less = vs; ins = here e; perm = p }
  ins_perm (keep x p) (there {xs = us} i) =
      let w = ins_perm {xs = us} p i in
      record { less = x ∷ w.less; ins = there w.ins; perm = keep x w.perm }
  ins_perm (flip x y zs) (here e) = record { less = y ∷ zs; ins = there (here e); perm = perm_refl (y ∷ zs) }
  ins_perm (flip x y zs) (there (here e)) = record { less = x ∷ zs; ins = here e; perm = perm_refl (x ∷ zs) }
  ins_perm (flip x y zs) (there (there {xs = us} i)) = record { less = y ∷ x ∷ us; ins = there (there i); perm = flip x y us }
  ins_perm (also p q) i =
      let v = ins_perm p i in
      let w = ins_perm q v.ins in
      record { less = w.less; ins = w.ins; perm = also v.perm w.perm }

  ins_cons : {a : A} {xs axs : List A} → Ins a xs axs → Perm (a ∷ xs) axs
  ins_cons {a} {xs} (here e) = subst (λ (x : A). Perm (a ∷ xs) (x ∷ xs)) e (perm_refl (a ∷ xs))
  ins_cons {a} (there {y} {xs} {axs} i) = also (flip a y xs) (keep y (ins_cons i))

  pub perm_cancel : (x : A) (xs ys : List A) → Perm (x ∷ xs) (x ∷ ys) → Perm xs ys
  perm_cancel x xs ys p = go (ins_perm p (here refl))
    where
      front : (zs : List A) → Ins x zs (x ∷ ys) → Perm xs zs → Perm xs ys
      front zs (here e) q = q
      front zs (there i) q = also q (ins_cons i)

      go : Without x xs (x ∷ ys) → Perm xs ys
      go w = front w.less w.ins w.perm

  -- ---- removal and replacement, up to order

  pub remove_at_perm : (d : A) (xs : List A) (i : ℕ) → i < length xs → Perm xs (get_or xs i d ∷ remove_at i xs)
  unfolding remove_at
  remove_at_perm d [] i h = absurd (not-suc-le-zero h)
  remove_at_perm d (x ∷ xs) zero h = perm_refl (x ∷ xs)
  remove_at_perm d (x ∷ xs) (suc i) h = also (keep x (remove_at_perm d xs i (le_of_suc-le-suc h))) (flip x (get_or xs i d) (remove_at i xs))

  pub set_remove_at : (xs : List A) (i : ℕ) (v : A) → i < length xs → Perm (set xs i v) (v ∷ remove_at i xs)
  unfolding remove_at
  set_remove_at [] i v h = absurd (not-suc-le-zero h)
  set_remove_at (x ∷ xs) zero v h = perm_refl (v ∷ xs)
  set_remove_at (x ∷ xs) (suc i) v h = also (keep x (set_remove_at xs i v (le_of_suc-le-suc h))) (flip x v (remove_at i xs))

  pub length_remove_at : (xs : List A) (i : ℕ) → i < length xs → suc (length (remove_at i xs)) ≡ length xs
  unfolding remove_at
  length_remove_at [] i h = absurd (not-suc-le-zero h)
  length_remove_at (x ∷ xs) zero h = refl
  length_remove_at (x ∷ xs) (suc i) h = ap suc (length_remove_at xs i (le_of_suc-le-suc h))

  -- an element before the one that is removed stays where it is
  pub remove_at_set : (xs : List A) (i j : ℕ) (v : A) → i < j → remove_at j (set xs i v) ≡ set (remove_at j xs) i v
  unfolding remove_at
  remove_at_set [] i j v h = refl
  remove_at_set (x ∷ xs) i zero v h = absurd (not-suc-le-zero h)
  remove_at_set (x ∷ xs) zero (suc j) v h = refl
  remove_at_set (x ∷ xs) (suc i) (suc j) v h = ap {B = List A} (λ r. x ∷ r) (remove_at_set xs i j v (le_of_suc-le-suc h))

  pub get_or_remove_at : (d : A) (xs : List A) (i j : ℕ) → i < j → get_or (remove_at j xs) i d ≡ get_or xs i d
  unfolding remove_at
  get_or_remove_at d [] i j h = refl
  get_or_remove_at d (x ∷ xs) i zero h = absurd (not-suc-le-zero h)
  get_or_remove_at d (x ∷ xs) zero (suc j) h = refl
  get_or_remove_at d (x ∷ xs) (suc i) (suc j) h = get_or_remove_at d xs i j (le_of_suc-le-suc h)

  pub set_perm : (d : A) (xs : List A) (i : ℕ) (v : A) → i < length xs → Perm (get_or xs i d ∷ set xs i v) (v ∷ xs)
  set_perm d [] i v h = absurd (not-suc-le-zero h)
  set_perm d (x ∷ xs) zero v h = flip x v xs
  set_perm d (x ∷ xs) (suc i) v h =
      also (flip (get_or xs i d) x (set xs i v)) (also (keep x (set_perm d xs i v (le_of_suc-le-suc h))) (flip x v xs))

  pub swap_perm : (d : A) (xs : List A) (i j : ℕ) → i < length xs → j < length xs → Perm (swap d i j xs) xs
  unfolding swap
  swap_perm d [] i j h k = absurd (not-suc-le-zero h)
  swap_perm d (x ∷ xs) zero zero h k = perm_refl (x ∷ xs)
  swap_perm d (x ∷ xs) zero (suc j) h k = set_perm d xs j x (le_of_suc-le-suc k)
  swap_perm d (x ∷ xs) (suc i) zero h k = set_perm d xs i x (le_of_suc-le-suc h)
  swap_perm d (x ∷ xs) (suc i) (suc j) h k = keep x (swap_perm d xs i j (le_of_suc-le-suc h) (le_of_suc-le-suc k))

  -- sort_by
  pick_perm : (b : Bool) {xs ys zs : List A} → Perm xs zs → Perm ys zs → Perm (if b then xs else ys) zs
  pick_perm true p q = p
  pick_perm false p q = q

  pub insert_by_perm : (cmp : A → A → Ordering) (x : A) (xs : List A) → Perm (insert_by cmp x xs) (x ∷ xs)
  unfolding insert_by
  insert_by_perm cmp x [] = perm_refl (x ∷ [])
  insert_by_perm cmp x (y ∷ ys) = pick_perm (is_greater (cmp x y)) (also (keep y (insert_by_perm cmp x ys)) (flip y x ys)) (perm_refl (x ∷ y ∷ ys))

  pub sort_by_perm : (cmp : A → A → Ordering) (xs : List A) → Perm (sort_by cmp xs) xs
  unfolding sort_by
  sort_by_perm cmp [] = done
  sort_by_perm cmp (x ∷ xs) = also (insert_by_perm cmp x (sort_by cmp xs)) (keep x (sort_by_perm cmp xs))

  last_perm : (d y : A) (ys : List A) → Perm (last_or d (y ∷ ys) ∷ drop_last (y ∷ ys)) (y ∷ ys)
  unfolding last_or drop_last
  last_perm d y [] = perm_refl (y ∷ [])
  last_perm d y (z ∷ zs) = also (flip (last_or z zs) y (drop_last (z ∷ zs))) (keep y (last_perm d z zs))

  -- swap_remove is a removal, up to order
  pub swap_remove_perm : (d : A) (xs : List A) (i : ℕ) → i < length xs → Perm (swap_remove d i xs) (remove_at i xs)
  unfolding swap_remove last_or drop_last remove_at
  swap_remove_perm d [] i h = absurd (not-suc-le-zero h)
  swap_remove_perm d (x ∷ []) zero h = done
  swap_remove_perm d (x ∷ []) (suc i) h = absurd (not-suc-le-zero (le_of_suc-le-suc h))
  swap_remove_perm d (x ∷ y ∷ ys) zero h = last_perm x y ys
  swap_remove_perm d (x ∷ y ∷ ys) (suc zero) h = keep x (swap_remove_perm d (y ∷ ys) zero (le_of_suc-le-suc h))
  swap_remove_perm d (x ∷ y ∷ ys) (suc (suc i)) h = keep x (swap_remove_perm d (y ∷ ys) (suc i) (le_of_suc-le-suc h))

  pub swap_remove_out : (d : A) (xs : List A) (i : ℕ) → i < length xs → Perm xs (get_or xs i d ∷ swap_remove d i xs)
  swap_remove_out d xs i h = also (remove_at_perm d xs i h) (keep (get_or xs i d) (perm_sym (swap_remove_perm d xs i h)))

-- ---- members

-- what all have, each has
pub in_all : {A : Type 0} (P : A → Type 0) {a : A} (xs : List A) → All P xs → Memᴰ a xs → P a
in_all P [] h m = absurd (Memᴰ.not-nil m)
in_all P {a} (x ∷ xs) h m = go (Memᴰ.cases_cons m) (λ k. in_all P xs h.1 k)
  where
    go : (a ≡ x) ⊎ Memᴰ a xs → (Memᴰ a xs → P a) → P a
    go (inl e) later = subst P (sym e) h.0
    go (inr k) later = later k

-- each element of a list is in it
pub all_self : {A : Type 0} (xs : List A) → All (λ x. Memᴰ x xs) xs
all_self [] = tt
all_self (x ∷ xs) = (Memᴰ.head refl, all_map (λ y. Memᴰ y xs) (λ y. Memᴰ y (x ∷ xs)) (λ y m. Memᴰ.tail m) xs (all_self xs))

module _ {A B : Type 0} where
  pub map_perm : (f : A → B) {xs ys : List A} → Perm xs ys → Perm (map f xs) (map f ys)
  map_perm f done = done
  map_perm f (keep x p) = keep (f x) (map_perm f p)
  map_perm f (flip x y xs) = flip (f x) (f y) (map f xs)
  map_perm f (also p q) = also (map_perm f p) (map_perm f q)

  pub concat_map_perm : (f : A → List B) {xs ys : List A} → Perm xs ys → Perm (concat_map f xs) (concat_map f ys)
  unfolding concat_map
  concat_map_perm f done = done
  concat_map_perm f (keep x p) = perm_append_left (f x) (concat_map_perm f p)
  concat_map_perm f (flip x y xs) =
      let around : Perm ((f x ++ f y) ++ concat_map f xs) ((f y ++ f x) ++ concat_map f xs) = perm_append_right (concat_map f xs) (perm_append_comm (f x) (f y)) in
      rw (append_assoc (f x) (f y) (concat_map f xs), append_assoc (f y) (f x) (concat_map f xs)) at around
  concat_map_perm f (also p q) = also (concat_map_perm f p) (concat_map_perm f q)

  -- a list that is f of another, up to order, is f of that other in some order
  pub record MapOf (f : A → B) (ks : List B) (xs : List A) : Type 0 where
    pub order : List A
    pub mapped : ks ≡ map f order
    pub perm : Perm order xs

  pub perm_map_inv : (f : A → B) {ls ks : List B} → Perm ls ks → (xs : List A) → ls ≡ map f xs → MapOf f ks xs
  perm_map_inv f done [] e = record { order = []; mapped = refl; perm = done }
  perm_map_inv f done (x ∷ xs) e = absurd (nil≢cons e)
  perm_map_inv f (keep y p) [] e = absurd (cons≢nil e)
  perm_map_inv f (keep y p) (x ∷ xs) e =
      let m = perm_map_inv f p xs (tail-eq_of_cons-eq e) in
      record { order = x ∷ m.order; mapped = λ i. head-eq_of_cons-eq e i ∷ m.mapped i; perm = keep x m.perm }
  perm_map_inv f (flip y z ys) [] e = absurd (cons≢nil e)
  perm_map_inv f (flip y z ys) (x ∷ []) e = absurd (cons≢nil (tail-eq_of_cons-eq e))
  perm_map_inv f (flip y z ys) (x ∷ w ∷ xs) e =
      let t = tail-eq_of_cons-eq e in
      record {
        order = w ∷ x ∷ xs;
        mapped = λ i. head-eq_of_cons-eq t i ∷ head-eq_of_cons-eq e i ∷ tail-eq_of_cons-eq t i;
        perm = flip w x xs;
      }
  perm_map_inv f (also p q) xs e =
      let m = perm_map_inv f p xs e in
      let n = perm_map_inv f q m.order m.mapped in
      record { order = n.order; mapped = n.mapped; perm = also n.perm m.perm }
