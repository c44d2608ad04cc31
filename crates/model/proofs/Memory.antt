-- The rules of the lent memories, read off the definition of the outcome.
use Prim.Native.Nat.{ℕ, suc, ◌≤◌, ◌<◌}
use mathlib.Core.Path.{◌≡◌, refl, ap, ◌∙◌}
use mathlib.Core.Logic.{◌⊎◌, inl, inr}
use mathlib.Core.Bool.{Bool, true, false, ◌||◌}
use mathlib.Core.List.{List, ◌∷◌, ◌++◌}
use lib.Dec.{ltb}
use lib.ListN.{length, take, drop, replicate, length-append, length-drop, length-replicate}
use lib.Seq.{take_at, drop_at}
use native.Mathlib.Omega.{arith}
use borrow.Author.Tests.{lt-ltb, le-ltb, ne_eqb}
use Rattle.model.specs.Answer.{Answer, plan, refused, answer}
use Rattle.model.specs.Outcome.{least_workspace, least_plan, is_late, clears, cleared, written, too_small, outcome}

-- ---- 1: too little memory, and nothing else is looked at

small_is : (w p : List ℕ) → (length w < least_workspace) ⊎ (length p < least_plan) → too_small w p ≡ true
unfolding too_small
small_is w p (inl h) = rw (lt-ltb (length w) least_workspace h)
small_is w p (inr h) = rw (lt-ltb (length p) least_plan h) (or_true (ltb (length w) least_workspace))
  where
    or_true : (b : Bool) → (b || true) ≡ true
    or_true true = refl
    or_true false = refl

enough_is : (w p : List ℕ) → least_workspace ≤ length w → least_plan ≤ length p → too_small w p ≡ false
unfolding too_small
enough_is w p h k = rw (le-ltb (length w) least_workspace h, le-ltb (length p) least_plan k)

pub small_refused : (f w p : List ℕ) → (length w < least_workspace) ⊎ (length p < least_plan)
    → outcome f w p ≡ record { answer = refused 1; workspace = w; plan = p }
unfolding outcome
small_refused f w p h = rw (small_is w p h)

-- ---- with memory enough: the file's answer, the plan's words, the workspace

module _ (f w p : List ℕ) (h : least_workspace ≤ length w) (k : least_plan ≤ length p) where
  pub outcome_answer : (outcome f w p).answer ≡ answer f
  unfolding outcome
  outcome_answer = rw (enough_is w p h k)

  pub outcome_plan : (outcome f w p).plan ≡ written (answer f) p
  unfolding outcome
  outcome_plan = rw (enough_is w p h k)

  -- a refusal leaves the plan memory as found
  pub refusal_untouched : (n : ℕ) → answer f ≡ refused n → (outcome f w p).plan ≡ p
  unfolding written
  refusal_untouched n e = outcome_plan ∙ ap (λ (a : Answer). written a p) e

  -- a plan's words come first, and the words past its end keep their values
  pub plan_first : (ws : List ℕ) → answer f ≡ plan ws → (outcome f w p).plan ≡ ws ++ drop (length ws) p
  unfolding written
  plan_first ws e = outcome_plan ∙ ap (λ (a : Answer). written a p) e

  pub kept_as_found : clears (answer f) ≡ false → (outcome f w p).workspace ≡ w
  unfolding outcome
  kept_as_found e = rw (enough_is w p h k, e)

  pub first_cleared : clears (answer f) ≡ true → (outcome f w p).workspace ≡ cleared least_workspace w
  unfolding outcome
  first_cleared e = rw (enough_is w p h k, e)

  -- a refusal whose place is not after 14's leaves the workspace as found; 15, 16 and 17 clear it
  pub early_as_found : (n : ℕ) → answer f ≡ refused n → is_late n ≡ false → (outcome f w p).workspace ≡ w
  unfolding clears
  early_as_found n e late = kept_as_found (ap clears e ∙ late)

  pub late_cleared : (n : ℕ) → (n ≡ 15) ⊎ ((n ≡ 16) ⊎ (n ≡ 17)) → answer f ≡ refused n → (outcome f w p).workspace ≡ cleared least_workspace w
  unfolding clears is_late
  late_cleared n (inl i) e = first_cleared (ap clears e ∙ ap is_late i)
  late_cleared n (inr (inl i)) e = first_cleared (ap clears e ∙ ap is_late i)
  late_cleared n (inr (inr i)) e = first_cleared (ap clears e ∙ ap is_late i)

  -- a plan of no sheets leaves it as found, one with a sheet clears it
  pub empty_as_found : (rest : List ℕ) → answer f ≡ plan (0 ∷ rest) → (outcome f w p).workspace ≡ w
  unfolding clears
  empty_as_found rest e = kept_as_found (ap clears e)

  pub sheets_cleared : (sheets : ℕ) (rest : List ℕ) → answer f ≡ plan (suc sheets ∷ rest) → (outcome f w p).workspace ≡ cleared least_workspace w
  unfolding clears
  sheets_cleared sheets rest e = first_cleared (ap clears e ∙ rw (ne_eqb (suc sheets) 0 (λ q. omega (arith, q))) refl)

-- ---- the first n words zero, the rest as found

pub cleared_first : (n : ℕ) (w : List ℕ) → take n (cleared n w) ≡ replicate n 0
unfolding cleared
cleared_first n w = take_at (replicate n 0) (drop n w) n (length-replicate n 0)

pub cleared_rest : (n : ℕ) (w : List ℕ) → drop n (cleared n w) ≡ drop n w
unfolding cleared
cleared_rest n w = drop_at (replicate n 0) (drop n w) n (length-replicate n 0)

pub length_cleared : (n : ℕ) (w : List ℕ) → n ≤ length w → length (cleared n w) ≡ length w
unfolding cleared
length_cleared n w h = simp (length-append, length-replicate, length-drop) (omega arith)
