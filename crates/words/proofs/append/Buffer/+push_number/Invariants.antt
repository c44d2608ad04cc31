-- Each call has one byte less to put.
use Rattle.words.proofs.append.Buffer.+push_number.Given as goal

abbrev pub decreases-push_number : goal.decreases-push_number
decreases-push_number g l = l.count
