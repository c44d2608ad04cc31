-- What keeps the numbers of a sheet in range: its rectangles end within the largest board.
use Rattle.std.specs.Prelude.{◌+◌, ◌≤◌}
use Rattle.model.specs.declared.Rect.{Rect}
use Rattle.model.specs.Refusal.{most_side}

pub record Small (r : Rect) : Type 0 where
  pub across : r.x + r.width ≤ most_side
  pub along : r.y + r.length ≤ most_side

-- the piece is no larger than its free rectangle
pub record Inside (placed free : Rect) : Type 0 where
  pub across : placed.width ≤ free.width
  pub along : placed.length ≤ free.length
