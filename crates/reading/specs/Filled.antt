-- What a buffer has once some of an input was read into it.
use Rattle.std.specs.Prelude.{ℕ, ◌≤◌, List, Option, take, length}
use Rattle.std.specs.Io.KnownBytes.{Consumes}

-- so many bytes at its start are those that the input lost. What lies behind them is free: a reader may write there before it fails, or more than it counts
pub record Filled (before after : Option (List ℕ)) (buffer : List ℕ) (size : ℕ) : Type 0 where
  pub within : size ≤ length buffer
  pub bytes : Consumes before after (take size buffer)

-- the same of a count that is not told, since a failure has none
pub record FilledSome (before after : Option (List ℕ)) (buffer : List ℕ) : Type 0 where
  pub size : ℕ
  pub filled : Filled before after buffer size
