-- The insertion of a cut into a sheet, by its free rectangles.
use Rattle.std.specs.Prelude.{ℕ, ◌≤◌, ◌<◌, ◌≡◌, Bool, List, ◌++◌, length, get_or, Option, Some, None}
use Rattle.std.proofs.Math.Option as Defined
use Rattle.lists.specs.Base.{◌>>=◌, swap_remove}
use Rattle.lists.specs.Elements.{All}
use Rattle.model.specs.declared.PatternDirection.{PatternDirection}
use Rattle.model.specs.declared.Direction.{Direction}
use Rattle.model.specs.declared.BaselineGuillotineHeuristic.{BaselineGuillotineHeuristic}
use Rattle.model.specs.declared.Rect.{Rect}
use Rattle.model.specs.declared.CutInstance.{CutInstance}
use Rattle.model.specs.Types.{no_rect}
use Rattle.model.specs.Refusal.{most_side}
use Rattle.model.specs.Split.{split_free_rect}
use Rattle.model.specs.Merge.{first_pair, merge_free_rects, merges_any}
use Rattle.model.specs.Sheet.{GuillotineSheet, Insertion, Place, best_place, split_rects, try_insert}
use Rattle.sheet.specs.Bounds.{Small}
use Rattle.sheet.specs.declared.Inserted.{Inserted}
use Rattle.sheet.specs.declared.free_rects.TheConstants.{MOST_RECTS}
use Rattle.sheet.specs.Places.{place_at, sheet_with}

-- ---- what an insertion needs

-- of the free rectangles: numbers in range, and no pair that merges; every insertion keeps it
pub record Ready (kerf : ℕ) (rects : List Rect) : Type 0 where
  pub thin : kerf ≤ most_side
  pub small : All Small rects
  pub apart : first_pair kerf rects ≡ Defined.none

-- with room for one rectangle more
pub record Insertable (kerf : ℕ) (rects : List Rect) : Type 0 where
  pub few : length rects < MOST_RECTS
  pub ready : Ready kerf rects

-- ---- the rectangle at the place gives way to the remainders

-- the list has the rectangle at that index
pub record At (rects : List Rect) (index : ℕ) (r : Rect) : Type 0 where
  pub inside : index < length rects
  pub there : get_or rects index no_rect ≡ r

-- `split_rects` of the definition, by the parts of the sheet and of the place that it reads
unfoldable pub split_by : ℕ → ℕ → Rect → Rect → Direction → List Rect → List Rect
split_by kerf index free placed direction rects = swap_remove no_rect index rects ++ split_free_rect direction kerf free placed

-- the rectangles merged, and whether any did
pub record Replaces (kerf : ℕ) (free after : List Rect) (merged : Bool) : Type 0 where
  pub rects : after ≡ merge_free_rects kerf free
  pub any : merged ≡ merges_any kerf free

-- ---- the answer, and the rectangles afterwards

abbrev pub place_in : Option Inserted → Defined.Option Place
place_in None = Defined.none
place_in (Some t) = Defined.some (place_at t.index t.free_rect t.fit)

abbrev pub merged_in : Option Inserted → Defined.Option Bool
merged_in None = Defined.none
merged_in (Some t) = Defined.some t.merged

-- one insertion into one sheet
pub record InsertsInto (kerf : ℕ) (s : GuillotineSheet) (i : Insertion) (before after : List Rect) (r : Option Inserted) : Type 0 where
  pub place : place_in r ≡ best_place s i
  pub merged : merged_in r ≡ (best_place s i >>= λ p. Defined.some (merges_any kerf (split_rects kerf s i p)))
  pub rects : after ≡ (elim (try_insert kerf s i) [ Defined.none ↦ before | Defined.some t ↦ t.free_rects ])

-- the same into the sheet that has nothing but the rectangles; so into every sheet that has them (`into_any`)
abbrev pub Inserts : ℕ → PatternDirection → CutInstance → BaselineGuillotineHeuristic → (before after : List Rect) → Option Inserted → Type 0
Inserts kerf pattern cut h before after r = InsertsInto kerf (sheet_with before pattern) (record { cut = cut; heuristic = h }) before after r
