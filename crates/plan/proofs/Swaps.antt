-- Parts of a list written apart, in either order, and from the first element on.
use Prim.Native.Nat.{ℕ, ◌+◌, ◌-◌, ◌≤◌}
use native.Mathlib.Nat.{zero-add}
use native.Mathlib.Omega.{arith}
use mathlib.Core.Path.{◌≡◌, sym, ap, ap₂, ◌∙◌}
use mathlib.Core.List.{List, ◌++◌, append_assoc}
use lib.ListN.{length, take, drop, length-append}
use lib.Seq.{take-take, take-append-le, drop-append-le, take-append-add, drop-append-add, drop-drop, length-take-le}
use Rattle.lists.specs.Parts.{patch}
use Rattle.lists.proofs.Parts.{drop_take_add}

module _ {A : Type 0} (l : List A) (a c : ℕ) (b d : List A) (gap : c + length d ≤ a) (fits : a + length b ≤ length l) where
  abbrev front : List A
  front = take c l ++ d

  abbrev between : List A
  between = take (a - (c + length d)) (drop (c + length d) l)

  front_length : length front ≡ c + length d
  front_length = omega (arith, length-append (take c l) d, length-take-le c l (omega arith))

  -- the later part written first
  first_way : patch (patch l a b) c d ≡ front ++ (between ++ (b ++ drop (a + length b) l))
  first_way =
      let k : ℕ = c + length d in
      let rest : List A = b ++ drop (a + length b) l in
      let size : length (take a l) ≡ a = length-take-le a l (omega arith) in
      let span : k + (a - k) ≡ a = omega arith in
      let before : take c (take a l ++ rest) ≡ take c l = take-append-le c (take a l) rest (omega arith) ∙ take-take c a l (omega arith) in
      let behind : drop k (take a l ++ rest) ≡ between ++ rest =
      drop-append-le k (take a l) rest (omega arith) ∙ ap (λ (r : List A). r ++ rest) (ap (λ (m : ℕ). drop k (take m l)) (sym span) ∙ drop_take_add k (a - k) l)
      in
      ap₂ (λ (x y : List A). x ++ (d ++ y)) before behind ∙ sym (append_assoc (take c l) d (between ++ rest))

  -- the earlier part written first
  second_way : patch (patch l c d) a b ≡ front ++ (between ++ (b ++ drop (a + length b) l))
  second_way =
      let k : ℕ = c + length d in
      let whole : patch l c d ≡ front ++ drop k l = sym (append_assoc (take c l) d (drop k l)) in
      let span : a ≡ length front + (a - k) = omega (arith, front_length) in
      let past : a + length b ≡ length front + (a - k + length b) = omega (arith, front_length) in
      let same : k + (a - k + length b) ≡ a + length b = omega arith in
      let before : take a (front ++ drop k l) ≡ front ++ between = ap (λ (m : ℕ). take m (front ++ drop k l)) span ∙ take-append-add front (drop k l) (a - k) in
      let behind : drop (a + length b) (front ++ drop k l) ≡ drop (a + length b) l =
      ap (λ (m : ℕ). drop m (front ++ drop k l)) past ∙ drop-append-add front (drop k l) (a - k + length b) ∙ drop-drop (a - k + length b) k l ∙ ap (λ (m : ℕ). drop m l) same
      in
      ap (λ (r : List A). take a r ++ (b ++ drop (a + length b) r)) whole ∙ ap₂ (λ (x y : List A). x ++ (b ++ y)) before behind ∙ append_assoc front between (b ++ drop (a + length b) l)

  pub patch_swap : patch (patch l a b) c d ≡ patch (patch l c d) a b
  patch_swap = first_way ∙ sym second_way

-- a part from the first element on
pub patch_first : {A : Type 0} (l b : List A) → patch l 0 b ≡ b ++ drop (length b) l
patch_first {A} l b = ap (λ (m : ℕ). b ++ drop m l) (zero-add (length b))
