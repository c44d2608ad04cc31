-- The two tests of the prefilter, from what std answers to the definition.
use Prim.Native.Nat.{ℕ, ◌+◌, ◌≤◌, ◌<◌, ◌^◌}
use native.Mathlib.Omega.{arith}
use mathlib.Core.Path.{◌≡◌, refl, sym, ap, ap₂, ◌∙◌}
use mathlib.Core.Bool.{Bool, true, false, ◌&&◌, ◌||◌}
use mathlib.Core.List.{List, [], ◌∷◌, map}
use mathlib.Core.Option.{none, some}
use borrow.Author.Tests.{lt-ltb, le-ltb}
use Rattle.std.specs.Prelude.{sum_by}
use Rattle.std.specs.List.{list_any, list_all}
use Rattle.std.proofs.lemmas.List.Sums.{sum_by-cons}
use Rattle.lists.specs.Base.{any, all, sum}
use Rattle.model.specs.declared.StockInstance.{StockInstance}
use Rattle.model.specs.declared.CutInstance.{CutInstance}
use Rattle.model.specs.Types.{stock_area, cut_area}
use Rattle.model.specs.Fit.{cut_fits_stock}
use Rattle.model.specs.Refusal.{first_that_applies}
use Rattle.model.specs.Expand.{ProblemInstance}
use Rattle.model.specs.Answer.{prefilter}
use Rattle.trust.specs.Admitted.{Ranged}
use Rattle.trust.proofs.CandidateSize.{stock_area_most, cut_area_most}

module _ {A : Type 0} where
  pub any_of : (p : A → Bool) (l : List A) → list_any p l ≡ any p l
  unfolding any
  any_of p [] = refl
  any_of p (x ∷ l) = ap (λ (b : Bool). p x || b) (any_of p l)

  pub all_of : (p : A → Bool) (l : List A) → list_all p l ≡ all p l
  unfolding all
  all_of p [] = refl
  all_of p (x ∷ l) = ap (λ (b : Bool). p x && b) (all_of p l)

  sum_of : (f : A → ℕ) (l : List A) → sum_by f l ≡ sum (map f l)
  unfolding sum
  sum_of f [] = refl
  sum_of f (x ∷ l) = sum_by-cons f x l ∙ ap (λ (n : ℕ). f x + n) (sum_of f l)

module _ (inst : ProblemInstance) where
  -- both sums are below 2 ^ 64
  pub boards_held : Ranged inst → sum_by stock_area inst.stock < 2 ^ 64
  boards_held r = omega (arith, stock_area_most inst r, sum_of stock_area inst.stock)

  pub panels_held : Ranged inst → sum_by cut_area inst.cuts < 2 ^ 64
  panels_held r = omega (arith, cut_area_most inst r, sum_of cut_area inst.cuts)

  -- what the code's tests answer, on the boards and the cuts of the problem
  module _ {stock : List StockInstance} {cuts : List CutInstance} (e : stock ≡ inst.stock) (f : cuts ≡ inst.cuts) {fit : Bool} (g : fit ≡ all (λ c. any (cut_fits_stock c) stock) cuts) where
    all_fit : {b : Bool} → fit ≡ b → all (λ c. any (cut_fits_stock c) inst.stock) inst.cuts ≡ b
    all_fit h = sym (g ∙ ap₂ (λ (s : List StockInstance) (d : List CutInstance). all (λ c. any (cut_fits_stock c) s) d) e f) ∙ h

    pub refused_15 : fit ≡ false → some 15 ≡ prefilter inst
    unfolding prefilter first_that_applies
    refused_15 h = rw (all_fit h)

    module _ (h : fit ≡ true) {boards panels : ℕ} (k : boards ≡ sum_by stock_area stock) (l : panels ≡ sum_by cut_area cuts) where
      boards_are : sum (map stock_area inst.stock) ≡ boards
      boards_are = sym (k ∙ ap (sum_by stock_area) e ∙ sum_of stock_area inst.stock)

      panels_are : sum (map cut_area inst.cuts) ≡ panels
      panels_are = sym (l ∙ ap (sum_by cut_area) f ∙ sum_of cut_area inst.cuts)

      pub refused_16 : boards < panels → some 16 ≡ prefilter inst
      unfolding prefilter first_that_applies
      refused_16 m = rw (all_fit h, boards_are, panels_are, lt-ltb boards panels m)

      pub passed : panels ≤ boards → none ≡ prefilter inst
      unfolding prefilter first_that_applies
      passed m = rw (all_fit h, boards_are, panels_are, le-ltb boards panels m)
