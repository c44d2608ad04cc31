-- Fitness is a number from 0 to 1: each step's value is at most the whole number that it would be were every sheet full, which binary64 holds, and rounding keeps the order.
use Rattle.std.specs.Prelude.{if◌then◌else◌}
use Rattle.std.proofs.Common.{◌≡◌, ℕ, ◌+◌, ◌^◌, ◌≤◌, Bool, true, false, not, T, eqb, List, [], ◌∷◌, refl, subst, zero-le, le_trans, add_assoc, mul-le-mul_right, arith}
use mathlib.Core.Option
use mathlib.Core.Option.{none, some}
use borrow.Author.Tests.{eqb-false}
use lib.Ieee.{Float, binary64, low, add, div, is_nan}
use Rattle.lists.specs.Base.{sum}
use Rattle.model.specs.Fitness.{weight, positive_zero}
use Rattle.trust.proofs.Rounding.{has_number}
use Rattle.trust.proofs.Fractions.{Upto, part_upto, times_upto, plus_upto, quotient_upto}
use Rattle.trust.proofs.FitnessRange.{weight_has}
use Rattle.candidate.specs.declared.fitness.SheetAreas.{SheetAreas}
use Rattle.candidate.specs.Areas.{share_of, weighted_share, add_shares, board_areas, fitness_of, WithinBoards}

zero_upto : (n : ℕ) → Upto binary64 positive_zero n
zero_upto n = record { v = 0; has = (refl, refl); most = zero-le }

share_upto : (s : SheetAreas) → s.placed ≤ s.board → s.board ≤ 2 ^ 53 → Upto binary64 (share_of s) 1
unfolding share_of
share_upto s h A = go (eqb s.board 0) (eqb-false s.board 0)
  where
    go : (b : Bool) → (b ≡ false → s.board ≡ 0 → ⊥) → Upto binary64 (if b then positive_zero else div binary64 (weight s.placed) (weight s.board)) 1
    go true z = zero_upto 1
    go false z = part_upto binary64 (weight s.placed) (weight s.board) s.placed s.board (weight_has s.placed (le_trans h A)) (weight_has s.board A) (omega (arith, z refl)) h

weighted_upto : (s : SheetAreas) → s.placed ≤ s.board → s.board ≤ 2 ^ 53 → Upto binary64 (weighted_share s) s.board
unfolding weighted_share
weighted_upto s h A = times_upto binary64 (share_of s) (weight s.board) s.board (share_upto s h A) (weight_has s.board A) A

shares_upto : (sheets : List SheetAreas) (x : Float) (m : ℕ) → WithinBoards sheets → Upto binary64 x m → m + board_areas sheets ≤ 2 ^ 53 → Upto binary64 (add_shares x sheets) (m + board_areas sheets)
unfolding add_shares sum
shares_upto [] x m i u h = record { v = u.v; has = u.has; most = le_trans u.most (mul-le-mul_right (2 ^ low binary64) (omega arith)) }
shares_upto (s ∷ sheets) x m i u h =
    subst (λ (n : ℕ). Upto binary64 (add_shares (add binary64 x (weighted_share s)) sheets) n) (add_assoc m s.board (board_areas sheets))
    (shares_upto sheets (add binary64 x (weighted_share s)) (m + s.board) i.1 (plus_upto binary64 x (weighted_share s) m s.board u (weighted_upto s i.0 (omega arith)) (omega arith)) (omega arith))

module _ (sheets : List SheetAreas) (i : WithinBoards sheets) (exact : board_areas sheets ≤ 2 ^ 53) where
  fitness_upto : Upto binary64 (Option.get_or (fitness_of sheets) positive_zero) 1
  unfolding fitness_of
  fitness_upto = go (eqb (board_areas sheets) 0) (eqb-false (board_areas sheets) 0)
    where
      go : (b : Bool) → (b ≡ false → board_areas sheets ≡ 0 → ⊥)
          → Upto binary64 (Option.get_or (if b then none else some (div binary64 (add_shares positive_zero sheets) (weight (board_areas sheets)))) positive_zero) 1
      go true z = zero_upto 1
      go false z =
          let all : Upto binary64 (add_shares positive_zero sheets) (0 + board_areas sheets) = shares_upto sheets positive_zero 0 i (zero_upto 0) (omega arith) in
          let same : 0 + board_areas sheets ≡ board_areas sheets = omega arith in
          quotient_upto binary64 (add_shares positive_zero sheets) (weight (board_areas sheets)) (board_areas sheets)
          (subst (Upto binary64 (add_shares positive_zero sheets)) same all) (weight_has (board_areas sheets) exact) (omega (arith, z refl))

  -- so it is no NaN, and at most 1
  pub fitness_number : T (not (is_nan (Option.get_or (fitness_of sheets) positive_zero)))
  fitness_number = has_number (Option.get_or (fitness_of sheets) positive_zero) fitness_upto.v (2 ^ low binary64) fitness_upto.has
