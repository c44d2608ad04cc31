-- The index of the first best sheet, and the sheet that the definition picks.
use Rattle.std.specs.Prelude.{if◌then◌else◌}
use Prim.Native.Nat.{ℕ, suc, ◌+◌, ◌-◌, ◌≤◌, ◌<◌}
use native.Mathlib.Numerals.{add-one}
use native.Mathlib.Omega.{arith}
use mathlib.Core.Path.{◌≡◌, refl, sym, ap, ap₂, ◌∙◌}
use mathlib.Core.Bool.{Bool, true, false}
use mathlib.Core.List.{List, map}
use mathlib.Core.Option.{Option, some}
use lib.ListN.{length, get_or}
use lib.Ieee.{Float}
use Rattle.lists.specs.Base.{is_greater, count_from, range, enumerate, keep_best, first_best}
use Rattle.lists.proofs.Every.{all_any}
use Rattle.lists.proofs.Sums.{length-map}
use Rattle.lists.proofs.Counts.{range_below, enumerate_range, values}
use Rattle.lists.proofs.Maps.{first_best_map, get_d_map}
use Rattle.model.specs.Sheet.{GuillotineSheet}
use Rattle.model.specs.Fitness.{sheet_fitness, compare_float}
use Rattle.model.specs.Candidate.{Candidate, worst_bin}
use Rattle.model.specs.Search.{best_donor_bin}
use Rattle.candidate.specs.declared.fitness.SheetAreas.{SheetAreas}
use Rattle.candidate.specs.Areas.{areas_of, no_sheet, share_of}
use Rattle.candidate.proofs.fitness.Sheets.{sheet_fitness_areas}
use Rattle.candidate.specs.OnSheets.{share_at, less_fit, fitter, no_bin, IsFirstBest, IsWorst, best_donor, IsBestDonor}

-- ---- the loop over the sheets

module _ (better : Float → Float → Bool) (share : ℕ → Float) (n : ℕ) where
  abbrev by_share : ℕ → ℕ → Bool
  by_share i j = better (share i) (share j)

  -- what is left, from the best so far, gives what all give
  abbrev pub BestSoFar : ℕ → ℕ → Type 0
  BestSoFar best k = (0 < k) × (k ≤ n) × (best < k) × (keep_best by_share best (count_from k (n - k)) ≡ keep_best by_share 0 (count_from 1 (n - 1)))

  pub best_one : 0 < n → BestSoFar 0 1
  best_one h = (omega arith, omega arith, omega arith, refl)

  step : (best k : ℕ) → k < n → keep_best by_share best (count_from k (n - k)) ≡ keep_best by_share (if by_share k best then k else best) (count_from (k + 1) (n - (k + 1)))
  unfolding keep_best count_from
  step best k h =
      let e : n - k ≡ suc (n - (k + 1)) = omega arith in
      ap (λ (m : ℕ). keep_best by_share best (count_from k m)) e
      ∙ ap (λ (m : ℕ). keep_best by_share (if by_share k best then k else best) (count_from m (n - (k + 1)))) (sym (add-one k))

  -- with the share of the best so far; `r` is the answer for sheet k, whose share is `f`
  abbrev pub Held : ℕ → Float → ℕ → Type 0
  Held best value k = (value ≡ share best) × BestSoFar best k

  module _ (best k : ℕ) (value f : Float) (r : Bool) (here : k < n) (is : f ≡ share k) (answer : r ≡ better f value) (so_far : Held best value k) where
    abbrev next : Bool → ℕ
    next b = keep_best by_share (if b then k else best) (count_from (k + 1) (n - (k + 1)))

    turn : (b : Bool) → r ≡ b → next b ≡ keep_best by_share 0 (count_from 1 (n - 1))
    turn b t = ap next (sym t ∙ answer ∙ ap₂ better is so_far.0) ∙ sym (step best k here) ∙ so_far.1.3

    pub held_next : r ≡ true → Held k f (k + 1)
    held_next t = (is, (omega arith, omega arith, omega arith, turn true t))

    pub held_stays : r ≡ false → Held best value (k + 1)
    held_stays t = (so_far.0, (omega arith, omega arith, omega arith, turn false t))

  pub best_all : (best k : ℕ) → n ≤ k → BestSoFar best k → first_best by_share (range n) ≡ some best
  unfolding first_best keep_best count_from
  best_all best k past so_far =
      let none_left : n - k ≡ 0 = omega arith in
      let first : n ≡ suc (n - 1) = omega arith in
      ap (λ (m : ℕ). first_best by_share (range m)) first
      ∙ ap {B = Option ℕ} some (sym so_far.3 ∙ ap (λ (m : ℕ). keep_best by_share best (count_from k m)) none_left)

-- ---- the sheet that the definition picks

abbrev pub by_sheet : (Float → Float → Bool) → ℕ × GuillotineSheet → ℕ × GuillotineSheet → Bool
by_sheet better a b = better (sheet_fitness a.1) (sheet_fitness b.1)

module _ (sheets : List SheetAreas) (bins : List GuillotineSheet) (of : sheets ≡ map areas_of bins) where
  abbrev at : ℕ → ℕ × GuillotineSheet
  at k = (k, get_or bins k no_bin)

  size : length sheets ≡ length bins
  size = ap length of ∙ length-map areas_of bins

  share_fitness : (k : ℕ) → k < length bins → sheet_fitness (get_or bins k no_bin) ≡ share_at sheets k
  share_fitness k h =
      sheet_fitness_areas (get_or bins k no_bin) ∙ ap share_of (sym (get_d_map areas_of bins k no_sheet no_bin h) ∙ ap (λ (l : List SheetAreas). get_or l k no_sheet) (sym of))

  best_sheet : (better : Float → Float → Bool) (k : ℕ) → IsFirstBest better sheets k → (k < length bins) × (first_best (by_sheet better) (enumerate bins) ≡ some (k, get_or bins k no_bin))
  best_sheet better k f = (
    omega (arith, size, f.0),
    ap (first_best (by_sheet better)) (enumerate_range no_bin bins)
        ∙ first_best_map at (λ i j. better (share_at sheets i) (share_at sheets j)) (by_sheet better) (λ i. i < length bins)
        (λ i j h l. ap₂ better (share_fitness i h) (share_fitness j l)) (range (length bins)) k (range_below (length bins))
        (ap (λ (n : ℕ). first_best (λ i j. better (share_at sheets i) (share_at sheets j)) (range n)) (sym size) ∙ f.1),
  )

  pub worst_index : (k : ℕ) → IsFirstBest less_fit sheets k → IsWorst bins k
  unfolding worst_bin
  worst_index k f = best_sheet less_fit k f

  pub donor_index : (k : ℕ) → IsFirstBest fitter sheets k → IsBestDonor bins k
  unfolding best_donor
  donor_index k f = best_sheet fitter k f

-- the definition's donor has no index
pub donor_bin : (donor : Candidate) (k : ℕ) → IsBestDonor donor.bins k → best_donor_bin donor ≡ some (get_or donor.bins k no_bin)
unfolding best_donor best_donor_bin
donor_bin donor k h =
    let R : GuillotineSheet → GuillotineSheet → Bool = λ a b. is_greater (compare_float (sheet_fitness a) (sheet_fitness b)) in
    ap (first_best R) (sym (values 0 donor.bins))
    ∙ first_best_map (λ e. e.1) (λ a b. R a.1 b.1) R (λ e. Unit {0}) (λ a b u v. refl) (enumerate donor.bins) (k, get_or donor.bins k no_bin) (all_any (enumerate donor.bins)) h.1
