-- `line_words::digits` meets its contract: the digits passed make the number.
use Rattle.std.proofs.Common.{◌<◌, length, sym, ◌∙◌, rules, arith, drop_of_length-le}
use Rattle.typed.specs.Words.{read_digits}
use Rattle.typed.proofs.line.Values.{number_none, number_some, digits_next, digits_stop}
use Rattle.typed.proofs.line_words.digits.Goals as goal

pub returns-then-is_empty : goal.returns-then-is_empty
returns-then-is_empty c = sym (number_none _ _ (search rules))

pub returns-in_err-number : goal.returns-in_err-number
returns-in_err-number c =
    let here : c.loop-byte.byte-index < length c.args.word.now = omega arith in
    rw c.from_residual.ensures (sym (number_some _ _ (omega arith) ∙ c.loop-byte.invariant ∙ digits_stop _ _ _ _ here (sym c.in_err-number.ensures)))

pub loop-byte-preserved : goal.loop-byte-preserved
loop-byte-preserved c =
    let here : c.loop-byte.byte-index < length c.args.word.now = omega arith in
    c.loop-byte.invariant ∙ digits_next _ _ _ _ here _ (sym c.in_ok-number.ensures)

pub returns : goal.returns
unfolding read_digits
returns c = sym (number_some _ _ (search rules) ∙ c.loop-byte.invariant ∙ rw (drop_of_length-le c.args.word.now c.loop-byte-test.false))
