-- Each call has a smaller number.
use Rattle.words.proofs.append.Buffer.+push_decimal.Given as goal

abbrev pub decreases-push_decimal : goal.decreases-push_decimal
decreases-push_decimal g l = l.number
