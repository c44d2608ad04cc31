-- The sort that the source calls (`sort_by`, which is stable): a permutation, ordered, equal elements in their old order;
-- and only one list is all three. The comparison need only be an order on the elements that are compared.
use Rattle.std.specs.Prelude.{if◌then◌else◌}
use Prim.Native.Nat.{Ordering}
use mathlib.Core.Path.{◌≡◌, refl, sym, ap, ◌∙◌, subst}
use mathlib.Core.Logic.{◌⊎◌, inl, inr}
use mathlib.Core.Bool.{Bool, true, false, false≢true}
use mathlib.Core.List.Memᴰ
use mathlib.Core.List.{List, [], ◌∷◌, Memᴰ, nil≢cons, cons≢nil, head-eq_of_cons-eq, tail-eq_of_cons-eq}
use lib.Dec.{compare_is_eq}
use Rattle.lists.specs.Base.{is_greater, sort_by, retain}
use Rattle.lists.specs.Elements.{Perm, All, Pairs}
use Rattle.lists.proofs.Perm.{all_perm, perm_sym, mem_perm, in_all, sort_by_perm}
use Rattle.lists.proofs.Preorder.{flipped, Preorder}
use Rattle.lists.proofs.SortOn.{sort_rises, sort_stable}

module _ {A : Type 0} (cmp : A → A → Ordering) where
  abbrev pub UpTo : A → A → Type 0
  UpTo a b = is_greater (cmp a b) ≡ false

  abbrev pub equal : A → A → Bool
  equal a b = compare_is_eq (cmp a b)

  -- ys is xs sorted
  pub record IsSort (xs ys : List A) : Type 0 where
    pub perm : Perm ys xs
    pub ordered : Pairs UpTo ys
    pub stable : (x : A) → Memᴰ x xs → retain (equal x) ys ≡ retain (equal x) xs

  module _ (On : A → Type 0) (o : Preorder On cmp) where
    pub sort_is : (xs : List A) → All On xs → IsSort xs (sort_by cmp xs)
    sort_is xs h =
        record { perm = sort_by_perm cmp xs; ordered = sort_rises On cmp o xs h; stable = λ x m. sort_stable On cmp o x (in_all On xs h m) xs h }

    -- ---- only one

    self : (a : A) → On a → UpTo a a
    self a i = ap is_greater (o.same a i)

    upto_both : (a b : A) → On a → On b → UpTo a b → UpTo b a → equal a b ≡ true
    upto_both a b i j e f = go (cmp a b) (o.turned a b i j) e
      where
        go : (c : Ordering) → cmp b a ≡ flipped c → is_greater c ≡ false → compare_is_eq c ≡ true
        go Ordering.lt t k = absurd (false≢true (sym f ∙ ap is_greater t))
        go Ordering.eq t k = refl
        go Ordering.gt t k = absurd (false≢true (sym k))

    first_upto : (x y : A) (ys : List A) → On y → Pairs UpTo (y ∷ ys) → Memᴰ x (y ∷ ys) → UpTo y x
    first_upto x y ys i k m = go (Memᴰ.cases_cons m)
      where
        go : (x ≡ y) ⊎ Memᴰ x ys → UpTo y x
        go (inl e) = subst (UpTo y) (sym e) (self y i)
        go (inr n) = in_all (UpTo y) ys k.0 n

    -- what a test keeps was there
    kept_in : (p : A → Bool) (x : A) (ys rest : List A) → x ∷ rest ≡ retain p ys → Memᴰ x ys
    unfolding retain
    kept_in p x [] rest e = absurd (cons≢nil e)
    kept_in p x (y ∷ ys) rest e = go (p y) e (kept_in p x ys rest)
      where
        go : (b : Bool) → x ∷ rest ≡ (if b then y ∷ retain p ys else retain p ys) → (x ∷ rest ≡ retain p ys → Memᴰ x ys) → Memᴰ x (y ∷ ys)
        go true f later = Memᴰ.head (head-eq_of_cons-eq f)
        go false f later = Memᴰ.tail (later f)

    keeps : (x y : A) (ys : List A) → equal x y ≡ true → retain (equal x) (y ∷ ys) ≡ y ∷ retain (equal x) ys
    unfolding retain
    keeps x y ys e = rw e

    keeps_first : (x : A) (xs : List A) → On x → retain (equal x) (x ∷ xs) ≡ x ∷ retain (equal x) xs
    keeps_first x xs i = keeps x x xs (ap compare_is_eq (o.same x i))

    abbrev Agree : List A → List A → Type 0
    Agree ys zs = (w : A) → Memᴰ w ys ⊎ Memᴰ w zs → retain (equal w) ys ≡ retain (equal w) zs

    -- the same first element taken off
    strip : (p : A → Bool) (x : A) (ys zs : List A) → retain p (x ∷ ys) ≡ retain p (x ∷ zs) → retain p ys ≡ retain p zs
    unfolding retain
    strip p x ys zs e = go (p x) e
      where
        go : (b : Bool) → ◌≡◌ {A = List A} (if b then x ∷ retain p ys else retain p ys) (if b then x ∷ retain p zs else retain p zs) → retain p ys ≡ retain p zs
        go true f = tail-eq_of_cons-eq f
        go false f = f

    behind : (x w : A) (us ws : List A) → x ≡ w → Agree (x ∷ us) (w ∷ ws) → Agree us ws
    behind x w us ws e g = λ v m. strip (equal v) x us ws (g v (later v m) ∙ ap (λ (t : A). retain (equal v) (t ∷ ws)) (sym e))
      where
        later : (v : A) → Memᴰ v us ⊎ Memᴰ v ws → Memᴰ v (x ∷ us) ⊎ Memᴰ v (w ∷ ws)
        later v (inl m) = inl (Memᴰ.tail m)
        later v (inr m) = inr (Memᴰ.tail m)

    one_order : (ys zs : List A) → All On ys → All On zs → Pairs UpTo ys → Pairs UpTo zs → Agree ys zs → ys ≡ zs
    unfolding retain
    one_order [] [] h k u v a = refl
    one_order [] (z ∷ zs) h k u v a = absurd (nil≢cons (a z (inr (Memᴰ.head refl)) ∙ keeps_first z zs k.0))
    one_order (y ∷ ys) [] h k u v a = absurd (nil≢cons (sym (a y (inl (Memᴰ.head refl))) ∙ keeps_first y ys h.0))
    one_order (y ∷ ys) (z ∷ zs) h k u v a =
        let of_y : y ∷ retain (equal y) ys ≡ retain (equal y) (z ∷ zs) = sym (keeps_first y ys h.0) ∙ a y (inl (Memᴰ.head refl)) in
        let of_z : z ∷ retain (equal z) zs ≡ retain (equal z) (y ∷ ys) = sym (keeps_first z zs k.0) ∙ sym (a z (inr (Memᴰ.head refl))) in
        let zy : UpTo z y = first_upto y z zs k.0 v (kept_in (equal y) y (z ∷ zs) _ of_y) in
        let yz : UpTo y z = first_upto z y ys h.0 u (kept_in (equal z) z (y ∷ ys) _ of_z) in
        let one : y ≡ z = head-eq_of_cons-eq (of_y ∙ keeps y z zs (upto_both y z h.0 k.0 yz zy)) in
        let tails : ys ≡ zs = one_order ys zs h.1 k.1 u.1 v.1 (behind y z ys zs one a) in
        λ i. one i ∷ tails i

    pub sort_only : (xs ys : List A) → All On xs → IsSort xs ys → ys ≡ sort_by cmp xs
    sort_only xs ys h s =
        let t = sort_is xs h in
        one_order ys (sort_by cmp xs) (all_perm On (perm_sym s.perm) h) (all_perm On (perm_sym t.perm) h) s.ordered t.ordered
        (λ w m. s.stable w (among w m) ∙ sym (t.stable w (among w m)))
      where
        among : (w : A) → Memᴰ w ys ⊎ Memᴰ w (sort_by cmp xs) → Memᴰ w xs
        among w (inl m) = mem_perm s.perm m
        among w (inr m) = mem_perm (sort_by_perm cmp xs) m
