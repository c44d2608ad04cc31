-- What is left of a free rectangle once a piece lies at its corner: `split_direction`, `split_horizontal`, `split_vertical`.
use Rattle.std.specs.Prelude.{ℕ, ◌+◌, ◌-◌, ◌*◌, min, List, [], ◌∷◌, ◌++◌, leb, ltb, if◌then◌else◌}
use Rattle.model.specs.Types.{GuillotineSplitHeuristic, Direction, Rect, rect}

-- split_direction: a square and a tie are cut horizontally (Sentences.square_horizontal, area_tie_horizontal; a row of Plans for each)
unfoldable pub split_direction : Rect → Rect → GuillotineSplitHeuristic → Direction
split_direction free placed GuillotineSplitHeuristic.Horizontal = Direction.Horizontal
split_direction free placed GuillotineSplitHeuristic.LongerAxis =
    if ltb free.length free.width then Direction.Vertical else Direction.Horizontal
split_direction free placed GuillotineSplitHeuristic.MaximizeArea =
    if leb (placed.width * (free.length - placed.length)) ((free.width - placed.width) * placed.length)
    then Direction.Horizontal
    else Direction.Vertical

-- the remainder below the piece, of the width given, and the one to its right, of the length given: each only if larger than the kerf
unfoldable pub bottom_remainder : ℕ → Rect → Rect → ℕ → List Rect
bottom_remainder kerf free placed width =
    let remaining = free.length - placed.length in
    if ltb kerf remaining then rect free.x (free.y + placed.length + kerf) width (remaining - kerf) ∷ [] else []

unfoldable pub right_remainder : ℕ → Rect → Rect → ℕ → List Rect
right_remainder kerf free placed length =
    let remaining = free.width - placed.width in
    if ltb kerf remaining then rect (free.x + placed.width + kerf) free.y (remaining - kerf) length ∷ [] else []

-- the two remainders' other side: split_horizontal gives the bottom one the whole width, split_vertical the right one the whole length
abbrev pub bottom_width : Direction → Rect → Rect → ℕ
bottom_width Direction.Horizontal free placed = free.width
bottom_width Direction.Vertical free placed = placed.width

abbrev pub right_length : Direction → Rect → Rect → ℕ
right_length Direction.Horizontal free placed = placed.length
right_length Direction.Vertical free placed = free.length

-- split_free_rect_in_direction: what it pushes, the bottom remainder first
unfoldable pub split_free_rect : Direction → ℕ → Rect → Rect → List Rect
split_free_rect direction kerf free placed =
    bottom_remainder kerf free placed (bottom_width direction free placed) ++ right_remainder kerf free placed (right_length direction free placed)

-- the loss of a split
unfoldable pub split_loss : Direction → ℕ → Rect → Rect → ℕ
split_loss direction kerf free placed =
    min (free.length - placed.length) kerf * bottom_width direction free placed
    + min (free.width - placed.width) kerf * right_length direction free placed
