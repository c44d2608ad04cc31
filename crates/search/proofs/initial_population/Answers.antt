-- `search::initial_population` meets its contract: the candidates of the first k seeds are stored.
use Prim.Native.Nat.{ℕ, ◌+◌, ◌<◌}
use native.Mathlib.Omega.{arith}
use mathlib.Core.Path.{◌≡◌, sym, subst}
use mathlib.Core.List.{[]}
use Rattle.search.specs.Numbers.{numbers_of, sorted_seeds}
use Rattle.search.specs.Seeds.{IsSeed}
use Rattle.search.proofs.seeds.Nth.{seeds_length, seed_at_is}
use Rattle.search.specs.Populations.{Stores}
use Rattle.search.proofs.Firsts.{firsts_all, in_order, StoredTo, stored_none, stored_step}
use Rattle.search.proofs.initial_population.Goals as goal
use Rattle.search.proofs.initial_population.Goals.{After-initial_candidate_seed-seed}

-- the seed that is tried
seed_is : (c : After-initial_candidate_seed-seed) → IsSeed c.args.rows.now c.args.inst.now (numbers_of c.args.n) c.loop-k.k c.initial_candidate_seed-seed.result
seed_is c =
    let rows = c.args.rows.now in
    let inst = c.args.inst.now in
    let sorted = rw c.cuts.ensures.value at c.sorted_cut_order-sorted.ensures in
    let few : c.loop-k.k < sorted_seeds rows c.args.n + c.args.n.shuffles = omega (arith, c.loop-k-test.true, c.seed_count-count.ensures.0 [], seeds_length rows c.args.n []) in
    subst (IsSeed rows inst (numbers_of c.args.n) c.loop-k.k) (sym c.initial_candidate_seed-seed.ensures)
    (seed_at_is rows c.args.n inst c.sorted_cut_order-sorted.result.items (in_order inst c.sorted_cut_order-sorted.result.items sorted.0 sorted.1) c.loop-k.k few)

pub loop-k-init : goal.loop-k-init
loop-k-init c = stored_none c.args.rows.now c.args.inst.now (numbers_of c.args.n) c.args.ws.now

pub candidate_from_seed-c-requires : goal.candidate_from_seed-c-requires
candidate_from_seed-c-requires c = (c.cuts.ensures.sound, (seed_is (goal.at.candidate_from_seed-c-requires c).After-initial_candidate_seed-seed).once)

pub loop-k-preserved : goal.loop-k-preserved
loop-k-preserved c =
    let inst = c.args.inst.now in
    stored_step c.args.rows.now inst (numbers_of c.args.n) c.args.ws.now c.loop-k.ws c.store_at.new.ws c.loop-k.k c.initial_candidate_seed-seed.result c.candidate_from_seed-c.result
    (omega (arith, c.loop-k-test.true, c.seed_count-count.ensures.0 inst.cuts)) (omega (arith, c.loop-k-test.true, c.seed_count-count.ensures.1)) (omega (arith, c.loop-k.auto.ws, c.requires.2))
    c.cuts.ensures.sound.ranged.few_panels (seed_is (goal.at.loop-k-preserved c).After-initial_candidate_seed-seed) c.candidate_from_seed-c.ensures c.store_at.ensures c.loop-k.invariant

pub returns : goal.returns
returns c =
    let inst = c.args.inst.now in
    let rows = c.args.rows.now in
    let n = numbers_of c.args.n in
    let count : ℕ = c.seed_count-count.result in
    let done : c.loop-k.k ≡ count = omega arith in
    let all : StoredTo rows inst n c.args.ws.now count c.loop-k.ws = subst (λ (k : ℕ). StoredTo rows inst n c.args.ws.now k c.loop-k.ws) done c.loop-k.invariant in
    (subst (Stores inst c.loop-k.ws 0 count) (firsts_all rows inst n count (omega (arith, c.seed_count-count.ensures.0 inst.cuts))) all.holds, all.only, c.seed_count-count.ensures.1)
