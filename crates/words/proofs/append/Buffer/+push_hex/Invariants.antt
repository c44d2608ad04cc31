-- Each call has one digit less to put.
use Rattle.words.proofs.append.Buffer.+push_hex.Given as goal

abbrev pub decreases-push_hex : goal.decreases-push_hex
decreases-push_hex g l = l.count
