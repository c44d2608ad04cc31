-- `search::crossover_population` meets its contract: the pairs before i have had their children.
use Prim.Native.Nat.{ℕ, ◌+◌, ◌*◌, ◌<◌}
use native.Mathlib.Omega.{arith}
use mathlib.Core.Path.{◌≡◌, refl, subst}
use Rattle.search.specs.Populations.{StandsAt}
use Rattle.search.proofs.Pushing.{CrossedTo, parent_stands, parent_loaded, crossed_step, crossed_all}
use Rattle.search.proofs.crossover_population.Goals as goal
use Rattle.search.proofs.crossover_population.Goals.{In-loop-pair}

-- ---- the parents of a pair

left_stands : (c : In-loop-pair) → StandsAt c.args.inst.now c.loop-pair.ws (c.args.slots.base + 2 * c.loop-pair.pair)
left_stands c =
    parent_stands c.args.inst.now c.args.h c.args.ws.now c.loop-pair.ws c.args.slots.base c.args.slots.count (2 * c.loop-pair.pair) c.loop-pair.size c.loop-pair.invariant
    (2 * c.loop-pair.pair) (c.args.slots.base + 2 * c.loop-pair.pair) refl (omega (arith, c.loop-pair-test.true)) c.requires.0

right_stands : (c : In-loop-pair) → StandsAt c.args.inst.now c.loop-pair.ws (c.args.slots.base + 2 * c.loop-pair.pair + 1)
right_stands c =
    parent_stands c.args.inst.now c.args.h c.args.ws.now c.loop-pair.ws c.args.slots.base c.args.slots.count (2 * c.loop-pair.pair) c.loop-pair.size c.loop-pair.invariant
    (2 * c.loop-pair.pair + 1) (c.args.slots.base + 2 * c.loop-pair.pair + 1) (omega arith) (omega (arith, c.loop-pair-test.true)) c.requires.0

-- ---- the goals

pub load_at-left-requires : goal.load_at-left-requires
load_at-left-requires c = (
  omega (arith, c.loop-pair.auto.ws, c.loop-pair-test.true, c.requires.1, c.requires.2),
  rw c.cuts-cuts.ensures.value (left_stands (goal.at.load_at-left-requires c).In-loop-pair).counted,
  rw c.cuts-cuts.ensures.value c.cuts-cuts.ensures.sound.ranged.few_panels,
)

pub load_at-right-requires : goal.load_at-right-requires
load_at-right-requires c = (
  omega (arith, c.loop-pair.auto.ws, c.loop-pair-test.true, c.requires.1, c.requires.2),
  rw c.cuts-cuts.ensures.value (right_stands (goal.at.load_at-right-requires c).In-loop-pair).counted,
  rw c.cuts-cuts.ensures.value c.cuts-cuts.ensures.sound.ranged.few_panels,
)

pub crossover_child_from_donor_bin-child-requires : goal.crossover_child_from_donor_bin-child-requires
crossover_child_from_donor_bin-child-requires c =
    let here = (goal.at.crossover_child_from_donor_bin-child-requires c).In-loop-pair in (
      rw (c.load_at-left.ensures, c.cuts-cuts.ensures.value) (left_stands here).stands,
      rw (c.load_at-right.ensures, c.cuts-cuts.ensures.value) (right_stands here).stands,
    )

pub loop-pair-preserved : goal.loop-pair-preserved
loop-pair-preserved c =
    let inst = c.args.inst.now in
    let before = c.args.ws.now in
    let base : ℕ = c.args.slots.base in
    let count : ℕ = c.args.slots.count in
    let i : ℕ = 2 * c.loop-pair.pair in
    let here : i + 1 < count = omega (arith, c.loop-pair-test.true) in
    let loaded = parent_loaded inst c.args.h before c.loop-pair.ws base count i c.loop-pair.size c.loop-pair.invariant in
    let left = loaded i (base + i) refl (omega arith) c.load_at-left.result (rw c.cuts-cuts.ensures.value at c.load_at-left.ensures) in
    let right = loaded (i + 1) (base + i + 1) (omega arith) here c.load_at-right.result (rw c.cuts-cuts.ensures.value at c.load_at-right.ensures) in
    let next : i + 2 ≡ 2 * (c.loop-pair.pair + 1) = omega arith in
    subst (λ (n : ℕ). CrossedTo inst c.args.h before base count n c.push_child-size.result c.push_child-size.new.ws) next
    (crossed_step inst c.args.h before c.loop-pair.ws base count i c.loop-pair.size c.loop-pair.invariant c.push_child-size.new.ws c.load_at-left.result c.load_at-right.result c.crossover_child_from_donor_bin-child.result c.push_child-size.result
    here c.requires.1 c.cuts-cuts.ensures.sound.ranged.few_panels
    (omega (arith, c.loop-pair.auto.ws, c.loop-pair-test.true, c.loop-pair.invariant.most, c.requires.1, c.requires.2)) left right c.crossover_child_from_donor_bin-child.ensures.is c.push_child-size.ensures)

pub returns : goal.returns
returns c = (
  crossed_all c.args.inst.now c.args.h c.args.ws.now c.loop-pair.ws c.args.slots.base c.args.slots.count (2 * c.loop-pair.pair) c.loop-pair.size c.loop-pair.invariant (omega (arith, c.loop-pair-test.false)),
  c.loop-pair.invariant.only,
  omega (arith, c.loop-pair.invariant.most, c.requires.1),
)
