-- `line::setting_line` meets its contract.
use Rattle.std.proofs.lemmas.Result.{err_from_is_err_and}
use Rattle.typed.specs.Lines.{setting_line}
use Rattle.typed.proofs.line.setting_line.Goals as goal

pub returns-in_err-number : goal.returns-in_err-number
unfolding setting_line
returns-in_err-number c =
    let p = err_from_is_err_and c.from_residual.result c.from_residual.ensures.1 in
    rw (p.1, p.2, c.in_err-number.ensures.0, c.in_err-number.ensures.1)

pub returns-in_err-end : goal.returns-in_err-end
unfolding setting_line
returns-in_err-end c =
    let p = err_from_is_err_and c.from_residual-in_err-end.result c.from_residual-in_err-end.ensures.1 in
    rw (p.1, p.2, c.in_ok-number.ensures, c.in_err-end.ensures.ended.0, c.in_err-end.ensures.ended.1)

pub returns : goal.returns
unfolding setting_line
returns c = rw (c.in_ok-number.ensures, c.in_ok-end.ensures.ended)
