-- Laws of parts and patches: what a patch leaves as it was, and the turns of the loops that copy.
use Rattle.std.specs.Prelude.{insert}
use Prim.Native.Nat.{◌+◌, ◌-◌, ◌<◌, ◌≤◌, suc, zero, ℕ}
use native.Mathlib.Nat.{add-zero, suc-add, zero-add}
use native.Mathlib.Numerals.{add-one}
use native.Mathlib.Omega.{arith}
use mathlib.Core.Path.{◌∙◌, ◌≡◌, ap, ap₂, refl, sym}
use mathlib.Core.Logic.{◌⊎◌, inl, inr}
use mathlib.Core.List.{[], ◌++◌, ◌∷◌, List, append_assoc}
use lib.Ieee.{fits, lt}
use lib.ListN.{get_or-append, drop, get_or, length, length-append, length-drop, length-take, set, take, take-append-drop}
use lib.Seq.{append_snoc, drop-append-add, drop_at, drop-cons, drop-drop, get_or-append-add, get_or-drop, get_or-take, length_paste_head, length-take-le, paste, set_at, set_split, sets-eq, take-append-le, take_at, take-length, take-nil, take-suc, take-take}
use Rattle.lists.specs.Parts.{part, patch}

-- ---- parts

module _ {A : Type 0} where
  pub length_part : (l : List A) (a n : ℕ) → a + n ≤ length l → length (part l a n) ≡ n
  length_part l a n h = length-take-le n (drop a l) (omega (arith, length-drop a l))

  pub get_d_part : (l : List A) (a n i : ℕ) (d : A) → i < n → get_or (part l a n) i d ≡ get_or l (a + i) d
  get_d_part l a n i d h = get_or-take n (drop a l) i d h ∙ get_or-drop a l i d

  -- the bound of `s[a..a + n]` as the borrow checker has it
  pub part_span : (l : List A) (a n : ℕ) → take (a + n - a) (drop a l) ≡ part l a n
  part_span l a n = let e : a + n - a ≡ n = omega arith in ap (λ (k : ℕ). take k (drop a l)) e

  pub drop_take_add : (a n : ℕ) (l : List A) → drop a (take (a + n) l) ≡ take n (drop a l)
  drop_take_add zero n l = ap (λ (m : ℕ). take m l) (zero-add n)
  drop_take_add (suc a) n [] = ap (λ (m : ℕ). drop (suc a) (take m [])) (suc-add a n) ∙ sym (take-nil n)
  drop_take_add (suc a) n (x ∷ l) = ap (λ (m : ℕ). drop (suc a) (take m (x ∷ l))) (suc-add a n) ∙ drop_take_add a n l

  -- a part of a front
  pub part_take : (c n a : ℕ) (l : List A) → c + n ≤ a → part (take a l) c n ≡ part l c n
  part_take zero n a l h = take-take n a l (omega arith)
  part_take (suc c) n zero l h = absurd (omega arith)
  part_take (suc c) n (suc a) [] h = refl
  part_take (suc c) n (suc a) (x ∷ l) h = part_take c n a l (omega arith)

  -- a part that is two
  module _ (l : List A) (p m k : ℕ) (x y : List A) (e : part l p (m + k) ≡ x ++ y) (s : length x ≡ m) where
    pub part_left : part l p m ≡ x
    part_left = sym (take-take m (m + k) (drop p l) (omega arith)) ∙ ap (take m) e ∙ take_at x y m s

    pub part_right : part l (p + m) k ≡ y
    part_right = ap (take k) (sym (drop-drop m p l)) ∙ sym (drop_take_add m k (drop p l)) ∙ ap (drop m) e ∙ drop_at x y m s

-- ---- patches

module _ {A : Type 0} where
  pub patch_nil : (l : List A) (a : ℕ) → l ≡ patch l a []
  patch_nil l a = sym (rw (add-zero a) (take-append-drop a l))

  pub length_patch : (l : List A) (a : ℕ) (b : List A) → a + length b ≤ length l → length (patch l a b) ≡ length l
  length_patch l a b h = simp (length-append, length-take, length-drop) (omega arith)

  -- a store is a patch of one element
  pub set_patch : (l : List A) (i : ℕ) (v : A) → i < length l → set l i v ≡ patch l i (v ∷ [])
  set_patch l i v h = rw (set_split l i v h, add-one)

  pub paste_patch : (l : List A) (a : ℕ) (s : List A) (n : ℕ) → n ≤ length s → paste l a s n ≡ patch l a (take n s)
  paste_patch l a s n h =
      append_assoc (take a l) (take n s) (drop (a + n) l) ∙ ap (λ (m : ℕ). take a l ++ (take n s ++ drop (a + m) l)) (sym (length-take-le n s h))

  pub paste_all : (l : List A) (a : ℕ) (b : List A) → paste l a b (length b) ≡ patch l a b
  paste_all l a b = paste_patch l a b (length b) (omega arith) ∙ ap (patch l a) (take-length b)

  -- what stands before a patch, behind it, and in it
  pub take_patch : (n : ℕ) (l : List A) (a : ℕ) (b : List A) → n ≤ a → a ≤ length l → take n (patch l a b) ≡ take n l
  take_patch n l a b h k = take-append-le n (take a l) _ (omega (arith, length-take-le a l k)) ∙ take-take n a l h

  pub drop_patch : (l : List A) (a : ℕ) (b : List A) (c : ℕ) → a + length b ≤ c → a ≤ length l → drop c (patch l a b) ≡ drop c l
  drop_patch l a b c h k =
      let j : ℕ = c - (a + length b) in
      let front : List A = take a l ++ b in
      let e : length front ≡ a + length b = simp length-append (omega (arith, length-take-le a l k)) in
      let f : c ≡ length front + j = omega arith in
      let g : a + length b + j ≡ c = omega arith in
      ap (drop c) (sym (append_assoc (take a l) b (drop (a + length b) l)))
      ∙ ap (λ (m : ℕ). drop m (front ++ drop (a + length b) l)) f
      ∙ drop-append-add front (drop (a + length b) l) j
      ∙ drop-drop j (a + length b) l
      ∙ ap (λ (m : ℕ). drop m l) g

  pub part_patch : (l : List A) (a : ℕ) (b : List A) (n : ℕ) → a ≤ length l → part (patch l a b) a n ≡ take n (b ++ drop (a + length b) l)
  part_patch l a b n h = ap (take n) (drop_at (take a l) (b ++ drop (a + length b) l) a (length-take-le a l h))

  -- two parts side by side are one
  pub patch_append : (l : List A) (a : ℕ) (b b' : List A) (k : ℕ) → k ≡ a + length b → a + length b ≤ length l → patch (patch l a b) k b' ≡ patch l a (b ++ b')
  patch_append l a b b' k e h =
      let front : List A = take a l ++ b in
      let fl : length front ≡ k = simp (length-append, length-take) (omega arith) in
      let whole : patch l a b ≡ front ++ drop (a + length b) l = sym (append_assoc (take a l) b (drop (a + length b) l)) in
      let far : k + length b' ≡ a + length (b ++ b') = omega (arith, length-append b b') in
      ap (λ (r : List A). r ++ (b' ++ drop (k + length b') (patch l a b))) (ap (take k) whole ∙ take_at front (drop (a + length b) l) k fl)
      ∙ ap (λ (r : List A). front ++ (b' ++ r)) (drop_patch l a b (k + length b') (omega arith) (omega arith) ∙ ap (λ (m : ℕ). drop m l) far)
      ∙ append_assoc (take a l) b (b' ++ drop (a + length (b ++ b')) l)
      ∙ ap (λ (r : List A). take a l ++ r) (sym (append_assoc b b' (drop (a + length (b ++ b')) l)))

  -- a part written before another
  pub patch_front : (l : List A) (k a : ℕ) (h b : List A) → k ≡ a + length h → k + length b ≤ length l → patch (patch l k b) a h ≡ patch l a (h ++ b)
  patch_front l k a h b e fits =
      let rest : List A = b ++ drop (k + length b) l in
      let size : length (take k l) ≡ k = length-take-le k l (omega arith) in
      let far : k + length b ≡ a + length (h ++ b) = omega (arith, length-append h b) in
      let before : take a (take k l ++ rest) ≡ take a l = take-append-le a (take k l) rest (omega arith) ∙ take-take a k l (omega arith) in
      let behind : drop (a + length h) (take k l ++ rest) ≡ rest = ap (λ (m : ℕ). drop m (take k l ++ rest)) (sym e) ∙ drop_at (take k l) rest k size in
      ap (λ (r : List A). r ++ (h ++ drop (a + length h) (take k l ++ rest))) before
      ∙ ap (λ (r : List A). take a l ++ (h ++ r)) behind
      ∙ ap (λ (m : ℕ). take a l ++ (h ++ (b ++ drop m l))) far
      ∙ ap (λ (r : List A). take a l ++ r) (sym (append_assoc h b (drop (a + length (h ++ b)) l)))

  pub then_patch : (l₀ l₁ l₂ : List A) (a : ℕ) (b b' : List A) (k : ℕ) → l₁ ≡ patch l₀ a b → l₂ ≡ patch l₁ k b' → k ≡ a + length b → a + length b ≤ length l₀
      → l₂ ≡ patch l₀ a (b ++ b')
  then_patch l₀ l₁ l₂ a b b' k e f p h = f ∙ ap (λ (l : List A). patch l k b') e ∙ patch_append l₀ a b b' k p h

-- ---- stores side by side

-- two stores
pub two_stores : (l : List ℕ) (p a b : ℕ) → p + 2 ≤ length l → set (set l p a) (p + 1) b ≡ patch l p (a ∷ b ∷ [])
two_stores l p a b h = rw (add-one p) (sets-eq (a ∷ b ∷ []) l p h ∙ append_assoc (take p l) (a ∷ b ∷ []) (drop (p + 2) l))

-- a store behind a patch
pub store_behind : (l : List ℕ) (at v : ℕ) (row : List ℕ) → at + length row < length l → set (patch l at row) (at + length row) v ≡ patch l at (row ++ (v ∷ []))
store_behind l at v row h =
    set_patch (patch l at row) (at + length row) v (omega (arith, length_patch l at row (omega arith)))
    ∙ patch_append l at row (v ∷ []) (at + length row) refl (omega arith)

-- ---- a part moved up

module _ {A : Type 0} where
  -- the words below index i have yet to be moved up: one more
  get_or_patch_before : (l : List A) (a : ℕ) (b : List A) (i : ℕ) (d : A) → i < a → a ≤ length l → get_or (patch l a b) i d ≡ get_or l i d
  get_or_patch_before l a b i d h k =
      get_or-append (take a l) _ d i (omega (arith, length-take-le a l k)) ∙ get_or-take a l i d h

  set_patch_before : (l : List A) (a : ℕ) (b : List A) (v d : A) → suc a + length b ≤ length l → set (patch l (suc a) b) a v ≡ patch l a (v ∷ b)
  set_patch_before l a b v d h =
      let rest : List A = b ++ drop (suc a + length b) l in
      let far : suc a + length b ≡ a + suc (length b) = omega arith in
      ap (λ (r : List A). set (r ++ rest) a v) (take-suc l a d (omega arith))
      ∙ ap (λ (r : List A). set r a v) (append_assoc (take a l) (get_or l a d ∷ []) rest)
      ∙ set_at (take a l) (get_or l a d) rest v a (length-take-le a l (omega arith))
      ∙ ap (λ (k : ℕ). take a l ++ (v ∷ (b ++ drop k l))) far

  -- a part moved up from its end on: one element more
  pub moved_step : (l w : List A) (j i e by : ℕ) (d : A) → i ≡ j + 1 → i ≤ e → e + by ≤ length l → w ≡ patch l (i + by) (part l i (e - i))
      → set w (j + by) (get_or w j d) ≡ patch l (j + by) (part l j (e - j))
  moved_step l w j i e by d p h k f =
      let b : List A = part l i (e - i) in
      let size : length b ≡ e - i = length-take-le (e - i) (drop i l) (omega (arith, length-drop i l)) in
      let next : i + by ≡ suc (j + by) = omega arith in
      let same : get_or w j d ≡ get_or l j d = ap (λ (r : List A). get_or r j d) f ∙ get_or_patch_before l (i + by) b j d (omega arith) (omega arith) in
      let one : e - j ≡ suc (e - i) = omega arith in
      let after : suc j ≡ i = omega arith in
      ap₂ (λ (r : List A) (x : A). set r (j + by) x) (f ∙ ap (λ (m : ℕ). patch l m b) next) same
      ∙ set_patch_before l (j + by) b (get_or l j d) d (omega arith)
      ∙ ap (patch l (j + by))
      (sym (ap₂ (λ (n : ℕ) (r : List A). take n r) one (drop-cons l j d (omega arith) ∙ ap (λ (m : ℕ). get_or l j d ∷ drop m l) after)))

  pub moved_none : (l : List A) (e by : ℕ) → l ≡ patch l (e + by) (part l e (e - e))
  moved_none l e by =
      let none : e - e ≡ 0 = omega arith in
      patch_nil l (e + by) ∙ ap (λ (n : ℕ). patch l (e + by) (take n (drop e l))) (sym none)

  -- ---- a turn of a loop that copies

  -- to the front of an array
  pub front_more : (w l : List A) (at i : ℕ) (d : A) → i < length w → at + i < length l
      → set (part l at i ++ drop i w) i (get_or l (at + i) d) ≡ part l at (i + 1) ++ drop (i + 1) w
  front_more w l at i d h k =
      let p : List A = part l at i in
      let v : A = get_or l (at + i) d in
      let next : p ++ (v ∷ []) ≡ part l at (suc i) = ap (λ (x : A). p ++ (x ∷ [])) (sym (get_or-drop at l i d)) ∙ sym (take-suc (drop at l) i d (omega (arith, length-drop at l))) in
      ap (λ (r : List A). set (p ++ r) i v) (drop-cons w i d h)
      ∙ set_at p (get_or w i d) (drop (suc i) w) v i (length_part l at i (omega arith))
      ∙ sym (append_snoc p v (drop (suc i) w))
      ∙ ap (λ (r : List A). r ++ drop (suc i) w) next
      ∙ ap (λ (m : ℕ). part l at m ++ drop m w) (sym (add-one i))

  -- from a part of the same list, which lies behind where the copy begins or before it
  pub copy_read : (l : List A) (a b n i : ℕ) (d : A) → (b ≤ a) ⊎ (a + n ≤ b) → i < n → a + n ≤ length l → b + n ≤ length l
      → get_or (paste l b (part l a n) i) (a + i) d ≡ get_or (part l a n) i d
  copy_read l a b n i d (inl h) lt fa fb =
      let head : List A = take b l ++ take i (part l a n) in
      let size : length head ≡ b + i = length_paste_head l b (part l a n) i (omega arith) (omega (arith, length_part l a n fa)) in
      let e : a + i ≡ length head + (a - b) = omega arith in
      let f : b + i + (a - b) ≡ a + i = omega arith in
      ap (λ (m : ℕ). get_or (paste l b (part l a n) i) m d) e
      ∙ get_or-append-add head (drop (b + i) l) (a - b) d
      ∙ get_or-drop (b + i) l (a - b) d
      ∙ ap (λ (m : ℕ). get_or l m d) f
      ∙ sym (get_d_part l a n i d lt)
  copy_read l a b n i d (inr h) lt fa fb =
      let head : List A = take b l ++ take i (part l a n) in
      let size : length head ≡ b + i = length_paste_head l b (part l a n) i (omega arith) (omega (arith, length_part l a n fa)) in
      get_or-append head (drop (b + i) l) d (a + i) (omega arith)
      ∙ get_or-append (take b l) (take i (part l a n)) d (a + i) (omega (arith, length-take-le b l (omega arith)))
      ∙ get_or-take b l (a + i) d (omega arith)
      ∙ sym (get_d_part l a n i d lt)

-- ---- an element put in among the first ones

-- those from a place on moved up by one, and the element put there
pub inserted_among : {A : Type 0} (l : List A) (used p : ℕ) (x : A) → p ≤ used → used < length l
    → set (paste l (p + 1) (drop p l) (used - p)) p x ≡ insert (take used l) p x ++ drop (used + 1) l
inserted_among {A} l used p x h fits =
    let back : List A = part l p (used - p) in
    let size : length back ≡ used - p = length_part l p (used - p) (omega arith) in
    let moved : List A = patch l (p + 1) back in
    let behind : back ≡ drop p (take used l) =
    let e : p + (used - p) ≡ used = omega arith in
    sym (drop_take_add p (used - p) l) ∙ ap (λ (n : ℕ). drop p (take n l)) e
    in
    let front : take p l ≡ take p (take used l) = sym (take-take p used l h) in
    let far : p + length (x ∷ back) ≡ used + 1 = omega arith in
    ap (λ (d : List A). set d p x) (paste_patch l (p + 1) (drop p l) (used - p) (omega (arith, length-drop p l)))
    ∙ set_patch moved p x (omega (arith, length_patch l (p + 1) back (omega arith)))
    ∙ patch_front l (p + 1) p (x ∷ []) back (omega arith) (omega arith)
    ∙ ap (λ (n : ℕ). take p l ++ (x ∷ (back ++ drop n l))) far
    ∙ ap (λ (r : List A). take p l ++ (x ∷ (r ++ drop (used + 1) l))) behind
    ∙ ap (λ (r : List A). r ++ (x ∷ (drop p (take used l) ++ drop (used + 1) l))) front
    ∙ sym (append_assoc (take p (take used l)) (x ∷ drop p (take used l)) (drop (used + 1) l))
