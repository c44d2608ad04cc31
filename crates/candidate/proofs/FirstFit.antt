-- The first sheet that takes an insertion: what the definition's two loops of place_cut_first_fit find there.
use Rattle.std.specs.Prelude.{if◌then◌else◌}
use Prim.Native.Nat.{ℕ, zero, suc, ◌-◌, ◌≤◌, ◌<◌}
use native.Mathlib.Nat.{le_of_suc-le-suc, not-suc-le-zero, zero-lt-suc}
use native.Mathlib.Omega.{arith}
use mathlib.Core.Path.{◌≡◌, refl, ap, subst}
use mathlib.Core.List.{List, [], ◌∷◌, ◌++◌, map}
use mathlib.Core.Bool.{true}
use mathlib.Core.Option.{Option, none, some}
use lib.ListN.{length, get_or, set, take}
use Rattle.lists.specs.Base.{is_some, remove_at}
use Rattle.lists.specs.Elements.{All}
use Rattle.model.specs.declared.StockInstance.{StockInstance}
use Rattle.model.specs.Sheet.{GuillotineSheet, Insertion, new_sheet, try_insert}
use Rattle.model.specs.Candidate.{insert_in_bins, take_first_fitting_stock}
use Rattle.candidate.specs.Moves.{first_fit}

module _ (kerf : ℕ) (i : Insertion) where
  abbrev pub Refuses : GuillotineSheet → Type 0
  Refuses s = try_insert kerf s i ≡ none

  -- the sheet at that index becomes t, and those before it refuse
  abbrev pub TakenAt : List GuillotineSheet → ℕ → GuillotineSheet → Type 0
  TakenAt [] j t = ⊥
  TakenAt (s ∷ ss) zero t = try_insert kerf s i ≡ some t
  TakenAt (s ∷ ss) (suc j) t = Refuses s × TakenAt ss j t

  pub data Fits (ss : List GuillotineSheet) (j : ℕ) : Type 0 where
    taken : (t : GuillotineSheet) → TakenAt ss j t → Fits ss j
    refused : All Refuses ss → j ≡ length ss → Fits ss j

  pub first_fit_lem : (ss : List GuillotineSheet) → Fits ss (first_fit kerf i ss)
  unfolding first_fit
  first_fit_lem [] = refused tt refl
  first_fit_lem (s ∷ ss) = go (try_insert kerf s i) refl (first_fit kerf i ss) (first_fit_lem ss)
    where
      go : (o : Option GuillotineSheet) → try_insert kerf s i ≡ o → (j : ℕ) → Fits ss j → Fits (s ∷ ss) (if is_some o then 0 else suc j)
      go none e j (taken t h) = taken t (e, h)
      go none e j (refused h k) = refused (e, h) (ap suc k)
      go (some t) e j f = taken t e

  -- ---- sheets before, and sheets behind

  pub taken_inside : (ss : List GuillotineSheet) (j : ℕ) (t : GuillotineSheet) → TakenAt ss j t → j < length ss
  taken_inside [] j t h = absurd h
  taken_inside (s ∷ ss) zero t h = zero-lt-suc (length ss)
  taken_inside (s ∷ ss) (suc j) t h = omega (arith, taken_inside ss j t h.1)

  pub taken_get : (ss : List GuillotineSheet) (j : ℕ) (t d : GuillotineSheet) → TakenAt ss j t → try_insert kerf (get_or ss j d) i ≡ some t
  taken_get [] j t d h = absurd h
  taken_get (s ∷ ss) zero t d h = h
  taken_get (s ∷ ss) (suc j) t d h = taken_get ss j t d h.1

  pub taken_before : (as' bs : List GuillotineSheet) (j : ℕ) (t : GuillotineSheet) → j < length as' → TakenAt (as' ++ bs) j t → TakenAt as' j t
  taken_before [] bs j t k h = absurd (not-suc-le-zero k)
  taken_before (a ∷ as') bs zero t k h = h
  taken_before (a ∷ as') bs (suc j) t k h = (h.0, taken_before as' bs j t (le_of_suc-le-suc k) h.1)

  pub taken_behind : (as' bs : List GuillotineSheet) (j : ℕ) (t : GuillotineSheet) → length as' ≤ j → TakenAt (as' ++ bs) j t → All Refuses as' × TakenAt bs (j - length as') t
  taken_behind [] bs j t k h = let e : j ≡ j - 0 = omega arith in (tt, subst (λ (m : ℕ). TakenAt bs m t) e h)
  taken_behind (a ∷ as') bs zero t k h = absurd (not-suc-le-zero k)
  taken_behind (a ∷ as') bs (suc j) t k h =
      let later = taken_behind as' bs j t (le_of_suc-le-suc k) h.1 in
      let e : j - length as' ≡ suc j - suc (length as') = omega arith in
      ((h.0, later.0), subst (λ (m : ℕ). TakenAt bs m t) e later.1)

  -- ---- the loop over the bins

  pub in_bins_lem : (bins : List GuillotineSheet) (j : ℕ) (t : GuillotineSheet) → TakenAt bins j t → insert_in_bins kerf i bins ≡ some (set bins j t)
  unfolding insert_in_bins
  in_bins_lem [] j t h = absurd h
  in_bins_lem (b ∷ bins) zero t h = rw h
  in_bins_lem (b ∷ bins) (suc j) t h = rw (h.0, in_bins_lem bins j t h.1)

  pub no_bin_lem : (bins : List GuillotineSheet) → All Refuses bins → insert_in_bins kerf i bins ≡ none
  unfolding insert_in_bins
  no_bin_lem [] h = refl
  no_bin_lem (b ∷ bins) h = rw (h.0, no_bin_lem bins h.1)

  -- ---- take_first_fitting_stock

  pub on_stock : (stock : List StockInstance) (j : ℕ) (t : GuillotineSheet) → TakenAt (map new_sheet stock) j t
      → take_first_fitting_stock kerf i stock ≡ some (record { bin = t; stock = remove_at j stock })
  unfolding take_first_fitting_stock remove_at
  on_stock [] j t h = absurd h
  on_stock (s ∷ stock) zero t h = rw h
  on_stock (s ∷ stock) (suc j) t h = rw (h.0, on_stock stock j t h.1)

  pub no_stock_lem : (stock : List StockInstance) → All Refuses (map new_sheet stock) → take_first_fitting_stock kerf i stock ≡ none
  unfolding take_first_fitting_stock
  no_stock_lem [] h = refl
  no_stock_lem (s ∷ stock) h = rw (h.0, no_stock_lem stock h.1)

  -- ---- where the first is

  pub first_is : (ss : List GuillotineSheet) (j : ℕ) (d : GuillotineSheet) → All Refuses (take j ss) → j < length ss → is_some (try_insert kerf (get_or ss j d) i) ≡ true → first_fit kerf i ss ≡ j
  unfolding first_fit
  first_is [] j d h k e = absurd (not-suc-le-zero k)
  first_is (s ∷ ss) zero d h k e = rw e
  first_is (s ∷ ss) (suc j) d h k e = rw h.0 (ap suc (first_is ss j d h.1 (le_of_suc-le-suc k) e))

  pub first_none : (ss : List GuillotineSheet) → All Refuses ss → first_fit kerf i ss ≡ length ss
  unfolding first_fit
  first_none [] h = refl
  first_none (s ∷ ss) h = rw h.0 (ap suc (first_none ss h.1))
