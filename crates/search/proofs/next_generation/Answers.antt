-- `search::next_generation` meets its contract.
use Prim.Native.Nat.{ℕ, ◌+◌, ◌-◌, ◌≤◌}
use native.Mathlib.Omega.{arith}
use mathlib.Core.Path.{refl, subst}
use mathlib.Core.List.{List}
use Rattle.model.specs.Expand.{ProblemInstance}
use Rattle.search.specs.Populations.{population_in, Stores}
use Rattle.search.proofs.stored.Populations.{only_wider, only_then}
use Rattle.search.proofs.Rounds.{region_most, generation_is}
use Rattle.search.proofs.next_generation.Goals as goal

pub returns : goal.returns
returns c =
    let base : ℕ = c.args.slots.base in
    let parents : ℕ = c.args.slots.count in
    let inst : ProblemInstance = c.args.inst.now in
    let ws₀ : List ℕ = c.args.ws.now in
    let ws₁ : List ℕ = c.crossover_population-count.new.ws in
    let ws₂ : List ℕ = c.improve_population.new.ws in
    let ws₃ : List ℕ = c.survival_generation-count.new.ws in
    let size : ℕ = c.crossover_population-count.result in
    let low : base ≤ 48 = region_most base c.requires.2 in (
      subst (Stores inst ws₃ (48 - base) c.survival_generation-count.result)
          (generation_is inst c.args.h c.args.survivors (population_in inst ws₀ base parents) (population_in inst ws₁ base size) (population_in inst ws₂ base size) c.crossover_population-count.ensures.0.is c.improve_population.ensures.0.is) c.survival_generation-count.ensures.becomes,
      refl,
      only_then 0 96 ws₀ ws₁ ws₃ (only_wider (base + parents) (base + 48) ws₀ ws₁ c.crossover_population-count.ensures.1 0 96 (omega arith) (omega arith))
          (only_then 0 96 ws₁ ws₂ ws₃ (only_wider base (base + size) ws₁ ws₂ c.improve_population.ensures.1 0 96 (omega arith) (omega (arith, low, c.crossover_population-count.ensures.2)))
          (only_wider (48 - base) (48 - base + c.survival_generation-count.result) ws₂ ws₃ c.survival_generation-count.ensures.copies.only 0 96 (omega arith) (omega (arith, c.survival_generation-count.ensures.few)))),
    )
