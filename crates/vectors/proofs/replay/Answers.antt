-- A pair is counted at each turn.
use Rattle.std.proofs.Common.{◌<◌, length, sym, ◌∙◌, arith, rules}
use Rattle.vectors.proofs.Corpus.{two_shorter, pair_equal, pair_other, pair_none}
use Rattle.vectors.proofs.replay.Goals as goal

pub loop-rest-smaller-then-is_equal : goal.loop-rest-smaller-then-is_equal
loop-rest-smaller-then-is_equal c = two_shorter _ _ _ c.split_part.ensures.behind c.split_part-in-loop-rest.ensures.behind (search rules)

pub loop-rest-preserved-then-is_equal : goal.loop-rest-preserved-then-is_equal
loop-rest-preserved-then-is_equal c =
    let some : 0 < length c.loop-rest.rest.now = search rules in
    let shorter = two_shorter _ _ _ c.split_part.ensures.behind c.split_part-in-loop-rest.ensures.behind some in (
      omega (arith, c.loop-rest.invariant.0),
      omega (arith, c.loop-rest.invariant.1),
      c.loop-rest.invariant.2
          ∙ pair_equal c.loop-rest.tally c.loop-rest.rest.now _ _ _ _ _ _ (omega (arith, c.loop-rest.invariant.1)) some c.split_part.ensures.part c.split_part.ensures.behind c.split_part-in-loop-rest.ensures.part c.split_part-in-loop-rest.ensures.behind
          (sym c.is_equal.ensures ∙ c.if-is_equal.true),
    )

pub loop-rest-smaller : goal.loop-rest-smaller
loop-rest-smaller c = two_shorter _ _ _ c.split_part.ensures.behind c.split_part-in-loop-rest.ensures.behind (search rules)

pub loop-rest-preserved : goal.loop-rest-preserved
loop-rest-preserved c =
    let some : 0 < length c.loop-rest.rest.now = search rules in
    let shorter = two_shorter _ _ _ c.split_part.ensures.behind c.split_part-in-loop-rest.ensures.behind some in (
      omega (arith, c.loop-rest.invariant.0),
      omega (arith, c.loop-rest.invariant.1),
      c.loop-rest.invariant.2
          ∙ pair_other c.loop-rest.tally c.loop-rest.rest.now _ _ _ _ _ _ (omega (arith, c.loop-rest.invariant.1)) some c.split_part.ensures.part c.split_part.ensures.behind c.split_part-in-loop-rest.ensures.part c.split_part-in-loop-rest.ensures.behind
          (sym c.is_equal.ensures ∙ c.if-is_equal.false) c.or-tally.result c.or-tally.ensures,
    )

pub returns : goal.returns
returns c = sym (c.loop-rest.invariant.2 ∙ pair_none c.loop-rest.tally c.loop-rest.rest.now _ (search rules))
