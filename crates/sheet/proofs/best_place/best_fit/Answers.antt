-- `best_place::best_fit` meets its contract: the rectangles in which the cut fits, one by one.
use Rattle.std.proofs.Common.{◌<◌, ◌+◌, None, length, arith}
use Rattle.sheet.specs.Places.{places_by_ways}
use Rattle.sheet.proofs.best_place.Search.{over_none, seen_hit, seen_next, next_on, next_inside, seen_all}
use Rattle.sheet.proofs.best_place.best_fit.Goals as goal

pub loop-next-init : goal.loop-next-init
unfolding places_by_ways
loop-next-init c =
    let l = c.args.free.now in
    let ways = c.ways_to_lie-ways.result in (
      seen_next l ways c.args.cut c.args.heuristic None 0 c.next_fit-next.result (omega arith) c.next_fit-next.ensures (over_none c.args.heuristic None tt),
      next_inside l ways c.args.cut c.args.heuristic 0 c.next_fit-next.result c.next_fit-next.ensures,
    )

pub consider_rect-best-requires : goal.consider_rect-best-requires
consider_rect-best-requires c = c.loop-next.invariant.0.scored

pub overflow_add-index : goal.overflow_add-index
overflow_add-index c = let here : c.in-Some.index < length c.args.free.now = rw c.in-Some.is at c.loop-next.invariant.1 in record { fits = omega arith }

pub loop-next-smaller : goal.loop-next-smaller
loop-next-smaller c =
    let here : c.in-Some.index < length c.args.free.now = rw c.in-Some.is at c.loop-next.invariant.1 in
    let on = next_on c.args.free.now c.ways_to_lie-ways.result c.args.cut c.args.heuristic (c.in-Some.index + 1) c.next_fit-next-in-Some.result (omega arith) c.next_fit-next-in-Some.ensures in
    rw c.in-Some.is (omega (arith, on))

pub loop-next-preserved : goal.loop-next-preserved
loop-next-preserved c =
    let l = c.args.free.now in
    let ways = c.ways_to_lie-ways.result in
    let here : c.in-Some.index < length l = rw c.in-Some.is at c.loop-next.invariant.1 in
    let before = rw c.in-Some.is at c.loop-next.invariant.0 in
    let hit = seen_hit l ways c.args.cut c.args.heuristic c.loop-next.best c.consider_rect-best.result c.in-Some.index here before c.consider_rect-best.ensures in (
      seen_next l ways c.args.cut c.args.heuristic c.consider_rect-best.result (c.in-Some.index + 1) c.next_fit-next-in-Some.result (omega arith) c.next_fit-next-in-Some.ensures hit,
      next_inside l ways c.args.cut c.args.heuristic (c.in-Some.index + 1) c.next_fit-next-in-Some.result c.next_fit-next-in-Some.ensures,
    )

pub returns : goal.returns
returns c =
    let all = rw c.in_default.is at c.loop-next.invariant.0 in
    seen_all c.args.free.now c.ways_to_lie-ways.result c.args.cut c.args.heuristic c.args.stock_pattern c.loop-next.best c.ways_to_lie-ways.ensures all
