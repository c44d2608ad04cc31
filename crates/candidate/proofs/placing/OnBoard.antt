-- What an insertion leaves of a board's rectangles is the definition's insertion, among the rectangles of all boards.
use Rattle.std.specs.Prelude.{None, Some}
use Rattle.std.specs.Prelude as Language
use Prim.Native.Nat.{ℕ}
use mathlib.Core.Path.{◌≡◌, refl, ap, ◌∙◌}
use mathlib.Core.Bool.{Bool}
use mathlib.Core.List.{List, []}
use mathlib.Core.Option.{Option, none, some}
use lib.ListN.{length, set, length-set}
use Rattle.std.proofs.lemmas.List.{set-get_or}
use Rattle.lists.specs.Base.{◌>>=◌, is_some}
use Rattle.model.specs.declared.PatternDirection.{PatternDirection}
use Rattle.model.specs.declared.BaselineGuillotineHeuristic.{BaselineGuillotineHeuristic}
use Rattle.model.specs.declared.CutInstance.{CutInstance}
use Rattle.model.specs.declared.Rect.{Rect}
use Rattle.model.specs.Sheet.{GuillotineSheet, Insertion, Place, best_place, insert_at, try_insert}
use Rattle.sheet.specs.declared.Inserted.{Inserted}
use Rattle.sheet.specs.Insertions.{place_in, Inserts}
use Rattle.sheet.proofs.Sheets.{into_any}
use Rattle.candidate.specs.Bins.{rects_on, with_bin}
use Rattle.candidate.specs.Fitting.{InsertsOn, InsertsOnBoard}

-- a place found is an insertion made
found : (kerf : ℕ) (s : GuillotineSheet) (i : Insertion) → is_some (best_place s i) ≡ is_some (try_insert kerf s i)
unfolding try_insert
found kerf s i = go (best_place s i)
  where
    go : (o : Option Place) → is_some o ≡ is_some (o >>= λ p. some (insert_at kerf s i p))
    go none = refl
    go (some p) = refl

some_place : (x : Language.Option Inserted) → Language.is_some x ≡ is_some (place_in x)
some_place None = refl
some_place (Some t) = refl

pub inserts_on_board : (free : List (List Rect)) (board kerf : ℕ) (pattern : PatternDirection) (cut : CutInstance) (h : BaselineGuillotineHeuristic) (rects : List Rect) (x : Language.Option Inserted) (r : Bool)
    → r ≡ Language.is_some x → Inserts kerf pattern cut h (rects_on free board) rects x
    → InsertsOnBoard kerf pattern (record { cut = cut; heuristic = h }) board free (set free board rects) r
inserts_on_board free board kerf pattern cut h rects x r e f = λ s shows.
    let i : Insertion = record { cut = cut; heuristic = h } in
    let into = into_any kerf pattern cut h (rects_on free board) s shows rects x f in
    record {
      answer = e ∙ some_place x ∙ ap is_some into.place ∙ found kerf s i;
      rects = written (try_insert kerf s i) into.rects;
    }
  where
    written : (o : Option GuillotineSheet) → rects ≡ (elim o [ none ↦ rects_on free board | some t ↦ t.free_rects ])
        → set free board rects ≡ (elim o [ none ↦ free | some t ↦ with_bin free board t ])
    written none g = ap (set free board) g ∙ set-get_or free board []
    written (some t) g = ap (set free board) g

-- there are as many boards afterwards
pub length_after : (kerf : ℕ) (s : GuillotineSheet) (i : Insertion) (board : ℕ) (before after : List (List Rect)) (r : Bool) → InsertsOn kerf s i board before after r → length after ≡ length before
length_after kerf s i board before after r f = go (try_insert kerf s i) f.rects
  where
    go : (o : Option GuillotineSheet) → after ≡ (elim o [ none ↦ before | some t ↦ with_bin before board t ]) → length after ≡ length before
    go none e = ap length e
    go (some t) e = ap length e ∙ length-set before board t.free_rects
