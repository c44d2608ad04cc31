-- `line::record_line` meets its contract: each field that is missing, more words than it takes, and none of these.
use Rattle.std.proofs.lemmas.Result.{err_from_is_err_and}
use Rattle.typed.specs.Lines.{record_line}
use Rattle.typed.proofs.line.record_line.Goals as goal

pub returns-in_err-number : goal.returns-in_err-number
unfolding record_line
returns-in_err-number c =
    let p = err_from_is_err_and c.from_residual.result c.from_residual.ensures.1 in
    rw (p.1, p.2, c.in_err-number.ensures.0, c.in_err-number.ensures.1)

pub returns-in_err-number-2 : goal.returns-in_err-number-2
unfolding record_line
returns-in_err-number-2 c =
    let p = err_from_is_err_and c.from_residual-in_err-number-2.result c.from_residual-in_err-number-2.ensures.1 in
    rw (p.1, p.2, c.in_ok-number.ensures, c.in_err-number-2.ensures.0, c.in_err-number-2.ensures.1)

pub returns-in_err-number-3 : goal.returns-in_err-number-3
unfolding record_line
returns-in_err-number-3 c =
    let p = err_from_is_err_and c.from_residual-in_err-number-3.result c.from_residual-in_err-number-3.ensures.1 in
    rw (p.1, p.2, c.in_ok-number.ensures, c.in_ok-number-2.ensures, c.in_err-number-3.ensures.0, c.in_err-number-3.ensures.1)

pub returns-in_err-quantity : goal.returns-in_err-quantity
unfolding record_line
returns-in_err-quantity c =
    let p = err_from_is_err_and c.from_residual-in_err-quantity.result c.from_residual-in_err-quantity.ensures.1 in
    rw (p.1, p.2, c.in_ok-number.ensures, c.in_ok-number-2.ensures, c.in_ok-number-3.ensures, c.in_err-quantity.ensures.0, c.in_err-quantity.ensures.1)

pub returns-in_err-grain : goal.returns-in_err-grain
unfolding record_line
returns-in_err-grain c =
    let p = err_from_is_err_and c.from_residual-in_err-grain.result c.from_residual-in_err-grain.ensures.1 in
    rw (p.1, p.2, c.in_ok-number.ensures, c.in_ok-number-2.ensures, c.in_ok-number-3.ensures, c.in_ok-quantity.ensures, c.in_err-grain.ensures.0, c.in_err-grain.ensures.1)

pub returns-in_err-end : goal.returns-in_err-end
unfolding record_line
returns-in_err-end c =
    let p = err_from_is_err_and c.from_residual-in_err-end.result c.from_residual-in_err-end.ensures.1 in
    rw (p.1, p.2, c.in_ok-number.ensures, c.in_ok-number-2.ensures, c.in_ok-number-3.ensures, c.in_ok-quantity.ensures, c.in_ok-grain.ensures, c.flag.ensures, c.in_err-end.ensures.ended.0, c.in_err-end.ensures.ended.1)

pub returns : goal.returns
unfolding record_line
returns c = rw (c.in_ok-number.ensures, c.in_ok-number-2.ensures, c.in_ok-number-3.ensures, c.in_ok-quantity.ensures, c.in_ok-grain.ensures, c.flag.ensures, c.in_ok-end.ensures.ended)
