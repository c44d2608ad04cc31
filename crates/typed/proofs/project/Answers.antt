-- `typed::project` meets its contract: the lines that are left mean what the text means.
use Rattle.std.proofs.Common.{◌≡◌, ◌+◌, [], ◌∷◌, ◌++◌, length, length-append, rules, tests}
use Rattle.typed.proofs.Texts.{bad_turn, good_turn, last_turn, line_turn, line_end}
use Rattle.typed.proofs.project.Goals as goal

pub returns-in-Err : goal.returns-in-Err
returns-in-Err c =
    let turn = line_turn c.args.text.now _ _ c.loop-index.yielded _ _ c.in-Some.line c.loop-index.yielded_by c.next.ensures.steps c.in-Some.is c.into_iter-index-iterator.ensures.into_iter_gives c.enumerate-index-items.ensures.source
    c.enumerate-index-items.ensures.count c.split.ensures.rest c.split.ensures.done c.split.ensures.closure (λ x b q k. search (rules, tests)) in
    bad_turn c.args.text.now _ _ c.loop-index.invariant _ _ turn _ c.in-Err.ensures.answer

pub loop-index-preserved : goal.loop-index-preserved
loop-index-preserved c =
    let turn = line_turn c.args.text.now _ _ c.loop-index.yielded _ _ c.in-Some.line c.loop-index.yielded_by c.next.ensures.steps c.in-Some.is c.into_iter-index-iterator.ensures.into_iter_gives c.enumerate-index-items.ensures.source
    c.enumerate-index-items.ensures.count c.split.ensures.rest c.split.ensures.done c.split.ensures.closure (λ x b q k. search (rules, tests)) in
    let more : length (c.loop-index.yielded ++ (c.in-Some.index, c.in-Some.line) ∷ []) ≡ length c.loop-index.yielded + 1 = simp length-append in
    rw (more, c.add.ensures.project) (good_turn c.args.text.now _ _ c.loop-index.invariant _ _ turn (c.in_default.ensures.answer))

pub returns : goal.returns
returns c =
    let end = line_end c.args.text.now _ _ c.loop-index.yielded _ c.loop-index.yielded_by c.next.ensures.steps c.in-None.is c.into_iter-index-iterator.ensures.into_iter_gives c.enumerate-index-items.ensures.source
    c.enumerate-index-items.ensures.count c.split.ensures.rest c.split.ensures.done c.split.ensures.closure (λ x b q k. search (rules, tests)) in
    last_turn c.args.text.now _ _ c.loop-index.invariant end
