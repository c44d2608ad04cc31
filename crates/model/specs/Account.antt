-- What a sheet's making takes from the board's area and gives back: the loss of a split and kerf × shared side of a merge.
use Rattle.std.specs.Prelude.{ℕ, zero, suc, ◌+◌, ◌*◌, ◌||◌, List, [], ◌∷◌, map, length, get_or, if◌then◌else◌}
use Rattle.std.proofs.Math.Option.{none, some}
use Rattle.lists.specs.Base.{sum}
use Rattle.model.specs.Types.{Rect, area, no_rect}
use Rattle.model.specs.Split.{split_direction, split_loss}
use Rattle.model.specs.Merge.{below, first_pair, apply_merge}
use Rattle.model.specs.Sheet.{GuillotineSheet, Insertion, Place, best_place, split_rects, insert_at}

-- the side that two rectangles which merge have in common
unfoldable pub shared_side : ℕ → Rect → Rect → ℕ
shared_side kerf left right = if below kerf left right || below kerf right left then left.width else left.length

-- along the rounds of merge_free_rects
unfoldable pub rounds_gain : ℕ → ℕ → List Rect → ℕ
rounds_gain zero kerf free = 0
rounds_gain (suc n) kerf free =
    elim (first_pair kerf free) [
      | none ↦ 0
      | some p ↦ kerf * shared_side kerf (get_or free p.left no_rect) (get_or free p.right no_rect) + rounds_gain n kerf (apply_merge free p)
    ]

unfoldable pub merge_gain : ℕ → List Rect → ℕ
merge_gain kerf free = rounds_gain (length free) kerf free

-- of one insertion at its place
unfoldable pub place_loss : ℕ → Insertion → Place → ℕ
place_loss kerf i p = split_loss (split_direction p.free_rect p.fit.rect i.heuristic.split) kerf p.free_rect p.fit.rect

unfoldable pub place_gain : ℕ → GuillotineSheet → Insertion → Place → ℕ
place_gain kerf sheet i p = merge_gain kerf (split_rects kerf sheet i p)

-- of a making, from a sheet on: its losses, and what its merges gave back
unfoldable pub account_from : ℕ → GuillotineSheet → List Insertion → ℕ × ℕ
account_from kerf sheet [] = (0, 0)
account_from kerf sheet (i ∷ rest) =
    elim (best_place sheet i) [
      | none ↦ account_from kerf sheet rest
      | some p ↦
          let later = account_from kerf (insert_at kerf sheet i p) rest in
          (place_loss kerf i p + later.0, place_gain kerf sheet i p + later.1)
    ]

unfoldable pub free_area : GuillotineSheet → ℕ
free_area sheet = sum (map area sheet.free_rects)
