-- The source's generator is the paper's: the value after n + 1 steps from a seed is the paper's value number n + 1.
use Prim.Native.Nat.{ℕ, zero, suc, ◌+◌, ◌*◌, ◌^◌}
use native.Mathlib.Nat.{add_assoc, suc-mul, mod-add-mod}
use mathlib.Core.Path.{◌≡◌, refl, sym, ap, ◌∙◌}
use mathlib.Core.List.{[], ◌∷◌, map}
use Rattle.model.specs.TinyPrng.{wrap, next_state, value_of}
use Rattle.model.specs.SplitMix64.{mod64, xor_shift, mix64, variant13, golden_gamma, nth}

-- the state after n steps
pub state_after : ℕ → ℕ → ℕ
state_after seed zero = seed
state_after seed (suc n) = next_state (state_after seed n)

pub value_mix : (state : ℕ) → value_of state ≡ mix64 variant13 state
unfolding value_of mix64 xor_shift
value_mix state = refl

state_sum : (seed n : ℕ) → state_after seed (suc n) ≡ mod64 (seed + suc n * golden_gamma)
unfolding state_after next_state
state_sum seed zero = refl
state_sum seed (suc n) =
    ap (λ (s : ℕ). wrap (s + golden_gamma)) (state_sum seed n)
    ∙ mod-add-mod (seed + suc n * golden_gamma) (2 ^ 64) golden_gamma
    ∙ ap wrap (add_assoc seed (suc n * golden_gamma) golden_gamma ∙ ap (λ (k : ℕ). seed + k) (sym (suc-mul (suc n) golden_gamma)))

pub value_nth : (seed n : ℕ) → value_of (state_after seed (suc n)) ≡ nth seed (suc n)
unfolding nth
value_nth seed n = value_mix (state_after seed (suc n)) ∙ ap (mix64 variant13) (state_sum seed n)

-- published values from seed 0
pub vectors : map (nth 0) (1 ∷ 2 ∷ 3 ∷ []) ≡ 0xE220_A839_7B1D_CDAF ∷ 0x6E78_9E6A_A1B9_65F4 ∷ 0x06C4_5D18_8009_454F ∷ []
unfolding nth mix64 xor_shift
vectors = refl
