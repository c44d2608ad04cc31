-- A number of several bytes, from its bytes.
use Prim.Native.Nat.{ℕ, suc, ◌+◌, ◌*◌, ◌^◌, ◌≤◌, ◌<◌}
use native.Mathlib.Numerals.{add-one}
use native.Mathlib.Omega.{arith}
use mathlib.Core.Path.{◌≡◌, refl, ap, ◌∙◌}
use mathlib.Core.List.{List, [], ◌∷◌}
use lib.ListN.{length, get_or, take, drop, length-take, length-drop}
use lib.Seq.{drop-cons}
use Rattle.std.specs.Int.{w16, w32, w64, from_le_bytes}
use Rattle.model.specs.Project.{little_endian, number}

-- std's sum of weighted bytes is the number that they are, the lowest first
two : (s : List ℕ) → length s ≡ 2 → from_le_bytes w16 s ≡ little_endian s
unfolding little_endian
two (a ∷ b ∷ []) h = omega arith
two [] h = absurd (omega arith)
two (a ∷ []) h = absurd (omega arith)
two (a ∷ b ∷ c ∷ s) h = absurd (omega arith)

four : (s : List ℕ) → length s ≡ 4 → from_le_bytes w32 s ≡ little_endian s
unfolding little_endian
four (a ∷ b ∷ c ∷ d ∷ []) h = omega arith
four [] h = absurd (omega arith)
four (a ∷ []) h = absurd (omega arith)
four (a ∷ b ∷ []) h = absurd (omega arith)
four (a ∷ b ∷ c ∷ []) h = absurd (omega arith)
four (a ∷ b ∷ c ∷ d ∷ e ∷ s) h = absurd (omega arith)

eight : (s : List ℕ) → length s ≡ 8 → from_le_bytes w64 s ≡ little_endian s
unfolding little_endian
eight (a ∷ b ∷ c ∷ d ∷ e ∷ f ∷ g ∷ i ∷ []) h = omega arith
eight [] h = absurd (omega arith)
eight (a ∷ []) h = absurd (omega arith)
eight (a ∷ b ∷ []) h = absurd (omega arith)
eight (a ∷ b ∷ c ∷ []) h = absurd (omega arith)
eight (a ∷ b ∷ c ∷ d ∷ []) h = absurd (omega arith)
eight (a ∷ b ∷ c ∷ d ∷ e ∷ []) h = absurd (omega arith)
eight (a ∷ b ∷ c ∷ d ∷ e ∷ f ∷ []) h = absurd (omega arith)
eight (a ∷ b ∷ c ∷ d ∷ e ∷ f ∷ g ∷ []) h = absurd (omega arith)
eight (a ∷ b ∷ c ∷ d ∷ e ∷ f ∷ g ∷ i ∷ j ∷ s) h = absurd (omega arith)

module _ (l : List ℕ) (at : ℕ) where
  part_length : (n : ℕ) → at + n ≤ length l → length (take n (drop at l)) ≡ n
  part_length n h = omega (arith, length-take n (drop at l), length-drop at l)

  pub number_1 : at + 1 ≤ length l → get_or l at 0 ≡ number l at 1
  unfolding number little_endian
  number_1 h = let here : at < length l = omega arith in rw (drop-cons l at 0) (omega arith)

  pub number_2 : at + 2 ≤ length l → from_le_bytes w16 (take 2 (drop at l)) ≡ number l at 2
  unfolding number
  number_2 h = two (take 2 (drop at l)) (part_length 2 h)

  pub number_4 : at + 4 ≤ length l → from_le_bytes w32 (take 4 (drop at l)) ≡ number l at 4
  unfolding number
  number_4 h = four (take 4 (drop at l)) (part_length 4 h)

  pub number_8 : at + 8 ≤ length l → from_le_bytes w64 (take 8 (drop at l)) ≡ number l at 8
  unfolding number
  number_8 h = eight (take 8 (drop at l)) (part_length 8 h)

-- ---- a number's bytes, without std's sum

number_none : (l : List ℕ) (at : ℕ) → number l at 0 ≡ 0
unfolding number little_endian
number_none l at = refl

-- the lowest byte, and the rest
number_next : (l : List ℕ) (at n : ℕ) → at < length l → number l at (suc n) ≡ get_or l at 0 + 256 * number l (at + 1) n
unfolding number little_endian
number_next l at n h = rw (drop-cons l at 0, add-one)

module _ (l : List ℕ) (at : ℕ) where
  -- byte k of a number, and the rest
  byte : (k n : ℕ) → at + k < length l → number l (at + k) (suc n) ≡ get_or l (at + k) 0 + 256 * number l (at + suc k) n
  byte k n h =
      let e : at + k + 1 ≡ at + suc k = omega arith in
      number_next l (at + k) n h ∙ ap (λ (m : ℕ). get_or l (at + k) 0 + 256 * number l m n) e

  pub bytes_of_2 : at + 2 ≤ length l → get_or l at 0 + 256 * get_or l (at + 1) 0 ≡ number l at 2
  bytes_of_2 h = omega (arith, number_next l at 1 (omega arith), byte 1 0 (omega arith), number_none l (at + 2))

  pub bytes_of_4 : at + 4 ≤ length l → get_or l at 0 + 256 * (get_or l (at + 1) 0 + 256 * (get_or l (at + 2) 0 + 256 * get_or l (at + 3) 0)) ≡ number l at 4
  bytes_of_4 h =
      omega (arith, number_next l at 3 (omega arith), byte 1 2 (omega arith), byte 2 1 (omega arith), byte 3 0 (omega arith), number_none l (at + 4))

  -- the lower and the upper half
  pub halves_of_8 : at + 8 ≤ length l → number l at 4 + 2 ^ 32 * number l (at + 4) 4 ≡ number l at 8
  halves_of_8 h =
      omega (arith, bytes_of_4 (omega arith), number_next l at 7 (omega arith), byte 1 6 (omega arith), byte 2 5 (omega arith), byte 3 4 (omega arith))
