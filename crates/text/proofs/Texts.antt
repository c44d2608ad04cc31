-- A file's text, from what the entry answers and leaves.
use Prim.Native.Nat.{ℕ, ◌<◌}
use native.Mathlib.Omega.{arith}
use mathlib.Core.Path.{◌≡◌, sym, ap, ◌∙◌}
use mathlib.Core.List.{List}
use lib.ListN.{replicate}
use Rattle.model.specs.Outcome.{least_workspace, least_plan}
use Rattle.project.specs.declared.Refusal.{Refusal}
use Rattle.project.specs.Refusals.{refusal_number}
use Rattle.optimizer.specs.Promise.{number_of_answer, Promise}
use Rattle.text.specs.PlanText.{plan_text}
use Rattle.text.specs.Text.{refusal_text, answer_text, planned, printed}
use borrow.Author.Tests.{ne_eqb}

module _ {file w p : List ℕ} {n : ℕ} (h : Promise file (replicate least_workspace 0) (replicate least_plan 0) n w p) where
  told : answer_text n p ≡ printed file
  unfolding printed
  told = ap (λ (k : ℕ). answer_text k p) h.answer ∙ ap (answer_text (number_of_answer (planned file).answer)) h.plan

  is_plan : n ≡ 0 → plan_text p ≡ answer_text n p
  unfolding answer_text
  is_plan e = sym (ap (λ (k : ℕ). answer_text k p) e)

  is_refusal : (n ≡ 0 → ⊥) → refusal_text n ≡ answer_text n p
  unfolding answer_text
  is_refusal e = rw (ne_eqb n 0 e)

  pub text_of_plan : n ≡ 0 → plan_text p ≡ printed file
  text_of_plan e = is_plan e ∙ told

  pub text_of_refusal : (n ≡ 0 → ⊥) → refusal_text n ≡ printed file
  text_of_refusal e = is_refusal e ∙ told

pub refusal_number-within : (r : Refusal) → (0 < refusal_number r) × (refusal_number r < 18)
refusal_number-within Refusal.TooSmallMemory = (omega arith, omega arith)
refusal_number-within Refusal.NotWellFormed = (omega arith, omega arith)
refusal_number-within Refusal.BadSettings = (omega arith, omega arith)
refusal_number-within Refusal.LargeKerf = (omega arith, omega arith)
refusal_number-within Refusal.BadCodes = (omega arith, omega arith)
refusal_number-within Refusal.ZeroSide = (omega arith, omega arith)
refusal_number-within Refusal.LargeSide = (omega arith, omega arith)
refusal_number-within Refusal.UnlimitedStock = (omega arith, omega arith)
refusal_number-within Refusal.RepeatedId = (omega arith, omega arith)
refusal_number-within Refusal.TooManyStockInstances = (omega arith, omega arith)
refusal_number-within Refusal.ZeroQuantity = (omega arith, omega arith)
refusal_number-within Refusal.TooManyCutInstances = (omega arith, omega arith)
refusal_number-within Refusal.NoStock = (omega arith, omega arith)
refusal_number-within Refusal.NestedLayout = (omega arith, omega arith)
refusal_number-within Refusal.CutFitsNoStock = (omega arith, omega arith)
refusal_number-within Refusal.CutAreaTooLarge = (omega arith, omega arith)
refusal_number-within Refusal.NoCandidate = (omega arith, omega arith)

pub refusal_number-positive : (r : Refusal) → refusal_number r ≡ 0 → ⊥
refusal_number-positive r e = omega (arith, (refusal_number-within r).0, e)
