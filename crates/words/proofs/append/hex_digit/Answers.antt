-- `append::hex_digit` meets its contract.
use mathlib.Core.Path.{sym}
use Rattle.words.proofs.append.Numerals.{hex_digit_low, hex_digit_high}
use Rattle.words.proofs.append.hex_digit.Goals as goal

pub returns-then-digit-lt10 : goal.returns-then-digit-lt10
returns-then-digit-lt10 c = sym (hex_digit_low _ c.if-digit-lt10.true)

pub returns : goal.returns
returns c = sym (hex_digit_high _ c.if-digit-lt10.false)
