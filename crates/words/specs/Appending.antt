-- Bytes put into a buffer of fixed room, and into lent bytes.
use Rattle.std.specs.Prelude.{ℕ, ◌+◌, ◌-◌, ◌≤◌, min, ◌≡◌, List, ◌++◌, length, take, drop}

-- what a buffer of `room` bytes holds once `bytes` were put behind what it held: what does not fit is left out
unfoldable pub with_bytes : ℕ → List ℕ → List ℕ → List ℕ
with_bytes room held bytes = held ++ take (room - length held) bytes

-- The lent bytes `before` had `text` put into them from `at` on and are now `after`; the next text goes to `next`. Up to there they are what stood
-- before `at`, then the text, cut at their end; from there on they are as found.
pub record Appended (before : List ℕ) (at : ℕ) (text : List ℕ) (after : List ℕ) (next : ℕ) : Type 0 where
  pub reached : next ≡ min (length before) (at + length text)
  pub size : length after ≡ length before
  pub start : take next after ≡ take (length before) (take at before ++ text)
  pub rest : drop next after ≡ drop next before

-- so many bytes at the start of lent ones; the second part follows from the first, and lending `&bytes[..n]` asks for it
abbrev pub Front : ℕ → List ℕ → Type 0
Front n bytes = (n ≤ length bytes) × (n ≡ length (take n bytes))
