-- What the codes of the settings and of a record mean.
use Prim.Native.Nat.{ℕ, zero, suc, ◌≤◌, ◌<◌}
use native.Mathlib.Omega.{arith}
use mathlib.Core.Path.{◌≡◌, refl, ap}
use Rattle.model.specs.declared.LayoutKind.{LayoutKind}
use Rattle.model.specs.declared.OptimizerEffort.{OptimizerEffort}
use Rattle.model.specs.declared.PatternDirection.{PatternDirection}
use Rattle.model.specs.Types.{layout_of, effort_of, pattern_code, pattern_of}

-- a code that is neither 0 nor 1 means what all from 2 on mean
from_two : {A : Type 0} (of : ℕ → A) (a : A) → ((n : ℕ) → of (suc (suc n)) ≡ a) → (n : ℕ) → (n ≡ 0 → ⊥) → (n ≡ 1 → ⊥) → of n ≡ a
from_two of a others zero h k = absurd (h refl)
from_two of a others (suc zero) h k = absurd (k refl)
from_two of a others (suc (suc n)) h k = others n

pub layout_zero : (n : ℕ) → n ≡ 0 → layout_of n ≡ LayoutKind.Guillotine
layout_zero n e = ap layout_of e

pub layout_other : (n : ℕ) → (n ≡ 0 → ⊥) → layout_of n ≡ LayoutKind.Nested
layout_other zero h = absurd (h refl)
layout_other (suc n) h = refl

pub effort_zero : (n : ℕ) → n ≡ 0 → effort_of n ≡ OptimizerEffort.Fast
effort_zero n e = ap effort_of e

pub effort_one : (n : ℕ) → n ≡ 1 → effort_of n ≡ OptimizerEffort.Balanced
effort_one n e = ap effort_of e

pub effort_other : (n : ℕ) → (n ≡ 0 → ⊥) → (n ≡ 1 → ⊥) → effort_of n ≡ OptimizerEffort.Thorough
effort_other = from_two effort_of OptimizerEffort.Thorough (λ n. refl)

pub pattern_zero : (n : ℕ) → n ≡ 0 → pattern_of n ≡ PatternDirection.None
pattern_zero n e = ap pattern_of e

pub pattern_one : (n : ℕ) → n ≡ 1 → pattern_of n ≡ PatternDirection.ParallelToWidth
pattern_one n e = ap pattern_of e

pub pattern_other : (n : ℕ) → (n ≡ 0 → ⊥) → (n ≡ 1 → ⊥) → pattern_of n ≡ PatternDirection.ParallelToLength
pattern_other = from_two pattern_of PatternDirection.ParallelToLength (λ n. refl)

pub ruleset layouts = (layout_zero, layout_other)

pub ruleset efforts = (effort_zero, effort_one, effort_other)

pub ruleset patterns = (pattern_zero, pattern_one, pattern_other)

-- ---- the code of the pattern that a code means

pub code_large : (n : ℕ) → 2 < n → 2 ≡ pattern_code (pattern_of n)
code_large zero h = absurd (omega arith)
code_large (suc zero) h = absurd (omega arith)
code_large (suc (suc n)) h = refl

pub code_small : (n : ℕ) → n ≤ 2 → n ≡ pattern_code (pattern_of n)
code_small zero h = refl
code_small (suc zero) h = refl
code_small (suc (suc zero)) h = refl
code_small (suc (suc (suc n))) h = absurd (omega arith)
