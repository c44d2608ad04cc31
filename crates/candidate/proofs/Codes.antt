-- A word of an insertion gives back its board, its cut and its heuristic.
use Prim.Native.Nat.{ℕ, zero, suc, ◌+◌, ◌*◌, ◌/◌, ◌%◌, ◌≤◌, ◌<◌}
use native.Mathlib.Omega.{arith}
use mathlib.Core.Path.{◌≡◌, refl, ap, ◌∙◌}
use Rattle.model.specs.declared.GuillotineRectChoice.{GuillotineRectChoice}
use Rattle.model.specs.declared.GuillotineSplitHeuristic.{GuillotineSplitHeuristic}
use Rattle.model.specs.declared.RotationPreference.{RotationPreference}
use Rattle.model.specs.declared.BaselineGuillotineHeuristic.{BaselineGuillotineHeuristic}
use Rattle.candidate.specs.Entries.{choice_code, split_code, rotation_code, heuristic_code, choice_of, split_of, rotation_of, coded_heuristic, insertion_word, board_of, cut_of, heuristic_of}

-- ---- a heuristic

pub choice_most : (c : GuillotineRectChoice) → choice_code c ≤ 2
choice_most GuillotineRectChoice.Area = omega arith
choice_most GuillotineRectChoice.ShortSide = omega arith
choice_most GuillotineRectChoice.LongSide = omega arith

pub split_most : (s : GuillotineSplitHeuristic) → split_code s ≤ 2
split_most GuillotineSplitHeuristic.Horizontal = omega arith
split_most GuillotineSplitHeuristic.LongerAxis = omega arith
split_most GuillotineSplitHeuristic.MaximizeArea = omega arith

pub rotation_most : (r : RotationPreference) → rotation_code r ≤ 1
rotation_most RotationPreference.PreferUpright = omega arith
rotation_most RotationPreference.PreferRotated = omega arith

pub heuristic_most : (h : BaselineGuillotineHeuristic) → heuristic_code h ≤ 17
unfolding heuristic_code
heuristic_most h = omega (arith, choice_most h.rect_choice, split_most h.split, rotation_most h.rotation)

choice_back : (c : GuillotineRectChoice) → choice_of (choice_code c) ≡ c
choice_back GuillotineRectChoice.Area = refl
choice_back GuillotineRectChoice.ShortSide = refl
choice_back GuillotineRectChoice.LongSide = refl

split_back : (s : GuillotineSplitHeuristic) → split_of (split_code s) ≡ s
split_back GuillotineSplitHeuristic.Horizontal = refl
split_back GuillotineSplitHeuristic.LongerAxis = refl
split_back GuillotineSplitHeuristic.MaximizeArea = refl

rotation_back : (r : RotationPreference) → rotation_of (rotation_code r) ≡ r
rotation_back RotationPreference.PreferUpright = refl
rotation_back RotationPreference.PreferRotated = refl

pub code_back : (h : BaselineGuillotineHeuristic) → coded_heuristic (heuristic_code h) ≡ h
unfolding coded_heuristic heuristic_code
code_back h =
    let c : ℕ = choice_code h.rect_choice in
    let s : ℕ = split_code h.split in
    let r : ℕ = rotation_code h.rotation in
    let first : (c * 6 + s * 2 + r) / 6 ≡ c = omega (arith, split_most h.split, rotation_most h.rotation) in
    let second : (c * 6 + s * 2 + r) / 2 % 3 ≡ s = omega (arith, split_most h.split, rotation_most h.rotation) in
    let third : (c * 6 + s * 2 + r) % 2 ≡ r = omega (arith, rotation_most h.rotation) in
    λ j. record {
      rect_choice = (ap choice_of first ∙ choice_back h.rect_choice) j;
      split = (ap split_of second ∙ split_back h.split) j;
      rotation = (ap rotation_of third ∙ rotation_back h.rotation) j;
    }

-- a code above 1, and above 0
pub above_one : {A : Type 0} (f : ℕ → A) (a : A) → ((n : ℕ) → a ≡ f (suc (suc n))) → (n : ℕ) → (n ≡ 0 → ⊥) → (n ≡ 1 → ⊥) → a ≡ f n
above_one f a e zero h k = absurd (h refl)
above_one f a e (suc zero) h k = absurd (k refl)
above_one f a e (suc (suc n)) h k = e n

pub above_zero : {A : Type 0} (f : ℕ → A) (a : A) → ((n : ℕ) → a ≡ f (suc n)) → (n : ℕ) → (n ≡ 0 → ⊥) → a ≡ f n
above_zero f a e zero h = absurd (h refl)
above_zero f a e (suc n) h = e n

-- ---- an insertion

module _ (board cut : ℕ) (h : BaselineGuillotineHeuristic) where
  pub board_back : cut < 64 → board_of (insertion_word board cut h) ≡ board
  unfolding board_of insertion_word
  board_back k = omega (arith, heuristic_most h)

  pub cut_back : cut < 64 → cut_of (insertion_word board cut h) ≡ cut
  unfolding cut_of insertion_word
  cut_back k = omega (arith, heuristic_most h)

  pub heuristic_back : heuristic_of (insertion_word board cut h) ≡ h
  unfolding heuristic_of insertion_word
  heuristic_back =
      let e : ((board * 64 + cut) * 32 + heuristic_code h) % 32 ≡ heuristic_code h = omega (arith, heuristic_most h) in
      ap coded_heuristic e ∙ code_back h
