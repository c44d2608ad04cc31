-- `search::improve_population` meets its contract: the first k candidates are improved.
use Prim.Native.Nat.{ℕ, ◌+◌}
use native.Mathlib.Omega.{arith}
use mathlib.Core.Path.{◌∙◌}
use Rattle.search.proofs.Passes.{improved_none, next_words, next_stands, improved_step}
use Rattle.search.proofs.improve_population.Goals as goal

pub loop-k-init : goal.loop-k-init
loop-k-init c = improved_none c.args.inst.now c.args.h c.args.ws.now c.args.slots.base

pub load_at-c-requires : goal.load_at-c-requires
load_at-c-requires c =
    let stands = next_stands c.args.inst.now c.args.h c.args.ws.now c.loop-k.ws c.args.slots.base c.loop-k.k c.loop-k.invariant c.args.slots.count c.requires.0 c.loop-k-test.true in (
      omega (arith, c.loop-k.auto.ws, c.loop-k-test.true, c.requires.1),
      rw c.cuts-cuts.ensures.value stands.counted,
      rw c.cuts-cuts.ensures.value c.cuts-cuts.ensures.sound.ranged.few_panels,
    )

pub improve-requires : goal.improve-requires
improve-requires c =
    let stands = next_stands c.args.inst.now c.args.h c.args.ws.now c.loop-k.ws c.args.slots.base c.loop-k.k c.loop-k.invariant c.args.slots.count c.requires.0 c.loop-k-test.true in
    (c.cuts-cuts.ensures.sound, rw (c.load_at-c.ensures, c.cuts-cuts.ensures.value) stands.stands)

pub loop-k-preserved : goal.loop-k-preserved
loop-k-preserved c =
    let inst = c.args.inst.now in
    let slot : ℕ = c.args.slots.base + c.loop-k.k in
    let loaded = (rw c.cuts-cuts.ensures.value at c.load_at-c.ensures) ∙ next_words inst c.args.h c.args.ws.now c.loop-k.ws c.args.slots.base c.loop-k.k c.loop-k.invariant in
    improved_step inst c.args.h c.args.ws.now c.loop-k.ws c.args.slots.base c.loop-k.k c.loop-k.invariant c.store_at.new.ws c.load_at-c.result c.improve.new.c
    (omega (arith, c.loop-k.auto.ws, c.loop-k-test.true, c.requires.1)) c.cuts-cuts.ensures.sound.ranged.few_panels loaded c.improve.ensures c.store_at.ensures
