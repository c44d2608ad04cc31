-- Arrays whose unused places are blank: the array of its list, and one more element, one less, or none.
use Rattle.std.specs.Prelude.{insert}
use Prim.Native.Nat.{ℕ, suc, ◌+◌, ◌-◌, ◌≤◌, ◌<◌}
use native.Mathlib.Omega.{arith}
use mathlib.Core.Path.{◌≡◌, refl, sym, ap, ◌∙◌}
use mathlib.Core.List.{List, ◌∷◌, ◌++◌}
use lib.ListN.{length, set, take, drop, replicate, length-append, length-drop, length-set, length-replicate, take-append-drop}
use lib.Seq.{drop-drop, length-take-le}
use Rattle.std.proofs.lemmas.List.{drop-set-lt, drop-set, drop-replicate, take_at, drop_at, replicate-append-replicate}
use Rattle.std.proofs.lemmas.List.Edits.{length-insert}
use Rattle.lists.specs.Parts.{patch}
use Rattle.lists.specs.Padded.{Padded, padded}
use Rattle.lists.proofs.Parts.{length_patch}

module _ {A : Type 0} (blank : A) (room : ℕ) where
  pub count_back : (array : List A) (count : ℕ) → Padded blank room array count → length (take count array) ≡ count
  count_back array count h = length-take-le count array (omega (arith, h.0, h.1))

  pub array_back : (array : List A) (count : ℕ) → Padded blank room array count → padded blank room (take count array) ≡ array
  array_back array count h =
      ap (λ (n : ℕ). take count array ++ replicate (room - n) blank) (count_back array count h)
      ∙ ap (λ (l : List A). take count array ++ l) (sym h.2)
      ∙ take-append-drop count array

  rest_from : (array : List A) (count n : ℕ) → Padded blank room array count → count ≤ n → drop n array ≡ replicate (room - n) blank
  rest_from array count n h more =
      let far : count + (n - count) ≡ n = omega arith in
      ap (λ (m : ℕ). drop m array) (sym far)
      ∙ sym (drop-drop (n - count) count array)
      ∙ ap (drop (n - count)) h.2
      ∙ drop-replicate (n - count) (room - count) blank
      ∙ ap (λ (m : ℕ). replicate m blank) (omega (arith, h.0))

  -- blanks may count too
  pub padded_more : (array : List A) (count n : ℕ) → Padded blank room array count → count ≤ n → n ≤ room → Padded blank room array n
  padded_more array count n h more fits = (fits, h.1, rest_from array count n h more)

  pub padded_push : (array : List A) (count : ℕ) (x : A) → Padded blank room array count → count < room → Padded blank room (set array count x) (count + 1)
  padded_push array count x h fits = (
    omega arith,
    length-set array count x ∙ h.1,
    drop-set-lt (count + 1) array count x (omega arith) ∙ rest_from array count (count + 1) h (omega arith),
  )

  -- an element put in among those that are used
  module _ (array : List A) (count p : ℕ) (x : A) (h : Padded blank room array count) (fits : count < room) (within : p ≤ count) where
    size : length (insert (take count array) p x) ≡ count + 1
    size = length-insert (take count array) p x (omega (arith, count_back array count h)) ∙ ap (λ (n : ℕ). n + 1) (count_back array count h)

    pub padded_insert : Padded blank room (insert (take count array) p x ++ drop (count + 1) array) (count + 1)
    padded_insert = (
      omega arith,
      omega (arith, length-append (insert (take count array) p x) (drop (count + 1) array), size, length-drop (count + 1) array, h.1),
      drop_at (insert (take count array) p x) (drop (count + 1) array) (count + 1) size ∙ rest_from array count (count + 1) h (omega arith),
    )

    pub inserted_are : take (count + 1) (insert (take count array) p x ++ drop (count + 1) array) ≡ insert (take count array) p x
    inserted_are = take_at (insert (take count array) p x) (drop (count + 1) array) (count + 1) size

  -- the first elements written over blanks
  pub padded_all : (l : List A) → length l ≤ room → Padded blank room (patch (replicate room blank) 0 l) (length l)
  padded_all l h = (
    h,
    length_patch (replicate room blank) 0 l (omega (arith, length-replicate room blank)) ∙ length-replicate room blank,
    drop_at l (drop (0 + length l) (replicate room blank)) (length l) refl
        ∙ drop-replicate (0 + length l) room blank
        ∙ ap (λ (n : ℕ). replicate n blank) (omega arith),
  )

  pub padded_set : (array : List A) (count i : ℕ) (x : A) → Padded blank room array count → i < count → Padded blank room (set array i x) count
  padded_set array count i x h under = (h.0, length-set array i x ∙ h.1, drop-set-lt count array i x under ∙ h.2)

  pub padded_pop : (array : List A) (count : ℕ) → Padded blank room array count → 0 < count → Padded blank room (set array (count - 1) blank) (count - 1)
  padded_pop array count h some =
      let last : count - 1 + 1 ≡ count = omega arith in
      let more : suc (room - count) ≡ room - (count - 1) = omega (arith, h.0) in (
        omega (arith, h.0),
        length-set array (count - 1) blank ∙ h.1,
        drop-set array (count - 1) blank (omega (arith, h.0, h.1))
            ∙ ap (λ (n : ℕ). blank ∷ drop n array) last
            ∙ ap (λ (l : List A). blank ∷ l) h.2
            ∙ ap (λ (n : ℕ). replicate n blank) more,
      )

  -- blanks written over all but the first n
  pub padded_first : (array : List A) (count n : ℕ) → Padded blank room array count → n ≤ count → Padded blank room (take n array ++ (replicate (count - n) blank ++ drop count array)) n
  padded_first array count n h less =
      let rest : replicate (count - n) blank ++ drop count array ≡ replicate (room - n) blank =
      ap (λ (l : List A). replicate (count - n) blank ++ l) h.2
      ∙ replicate-append-replicate (count - n) (room - count) blank
      ∙ ap (λ (m : ℕ). replicate m blank) (omega (arith, h.0))
      in
      let front : length (take n array) ≡ n = length-take-le n array (omega (arith, h.0, h.1)) in (
        omega (arith, h.0),
        omega (
          arith,
          length-append (take n array) (replicate (count - n) blank ++ drop count array),
          front,
          ap length rest,
          length-replicate (room - n) blank,
          h.0,
        ),
        drop_at (take n array) (replicate (count - n) blank ++ drop count array) n front ∙ rest,
      )
