-- `line_words::Words::grain` meets its contract: the words of the table, counted from one.
use Rattle.std.proofs.Common.{sym, arith, ap, ◌∙◌}
use Rattle.typed.specs.Words.{after_word}
use Rattle.std.proofs.lemmas.Result.{err_from_is_err_and}
use Rattle.typed.proofs.line.Values.{skipped, not_skipped, choice_from_one, choice_from_one-none}
use Rattle.typed.proofs.line_words.Words.grain.Goals as goal

pub returns-then-not-skip : goal.returns-then-not-skip
returns-then-not-skip c = let kept = not_skipped _ _ _ c.skip.ensures.left (sym c.if-not-skip.ensures.skipped) in rw (kept.0, kept.1)

pub returns-in_err-along : goal.returns-in_err-along
returns-in_err-along c =
    let p = err_from_is_err_and c.from_residual.result c.from_residual.ensures.1 in
    let word = skipped _ _ _ c.skip.ensures.left (sym c.if-not-skip.ensures.skipped) in
    rw (p.1, p.2) (c.in_err-along.ensures.0, rw word.0 (choice_from_one-none _ _ _ c.in_err-along.ensures.1), c.in_err-along.ensures.2 ∙ ap after_word word.1)

pub overflow_add-result : goal.overflow_add-result
overflow_add-result c = let p = choice_from_one _ _ _ _ _ c.in_ok-along.ensures in omega (arith, p.1)

pub returns : goal.returns
returns c = rw (skipped _ _ _ c.skip.ensures.left (sym c.if-not-skip.ensures.skipped)).0 ((choice_from_one _ _ _ _ _ c.in_ok-along.ensures).0)
