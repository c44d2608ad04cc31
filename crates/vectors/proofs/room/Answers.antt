-- `vectors::room` meets its contract.
use Rattle.std.proofs.Common.{ℕ, refl, sym}
use Rattle.std.proofs.lemmas.List.{length-replicate}
use Rattle.vectors.specs.Replay.{zeros}
use Rattle.vectors.proofs.room.Goals as goal

pub returns-clause-empty : goal.returns-clause-empty
unfolding zeros
returns-clause-empty c = refl

pub returns-clause-size : goal.returns-clause-size
returns-clause-size c = sym (length-replicate {A = ℕ} 1_048_576 0)
