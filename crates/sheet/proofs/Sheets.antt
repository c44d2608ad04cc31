-- An insertion into the free rectangles is the definition's insertion into every sheet that has them; and what a caller needs to go on.
use Rattle.std.specs.Prelude.{None, Some}
use Rattle.std.specs.Prelude as Language
use Prim.Native.Nat.{ℕ, ◌≤◌}
use native.Mathlib.Omega.{arith}
use mathlib.Core.Path.{◌≡◌, refl, sym, ap, ◌∙◌}
use mathlib.Core.Bool.{Bool}
use mathlib.Core.List.{List, [], ◌∷◌, ◌++◌}
use mathlib.Core.Option.{Option, none, some, some-injective}
use lib.ListN.{length}
use Rattle.lists.specs.Base.{◌>>=◌, swap_remove}
use Rattle.lists.proofs.Perm.{all_append}
use Rattle.lists.proofs.Every.{all_get}
use Rattle.model.specs.declared.PatternDirection.{PatternDirection}
use Rattle.model.specs.declared.BaselineGuillotineHeuristic.{BaselineGuillotineHeuristic}
use Rattle.model.specs.declared.Rect.{Rect}
use Rattle.model.specs.declared.StockInstance.{StockInstance}
use Rattle.model.specs.declared.CutInstance.{CutInstance}
use Rattle.model.specs.declared.FitResult.{FitResult}
use Rattle.model.specs.Types.{no_rect, stock_rect}
use Rattle.model.specs.Refusal.{most_side}
use Rattle.model.specs.Split.{split_direction, split_free_rect}
use Rattle.model.specs.Merge.{find_pair, find_right, merge_free_rects, merges_any}
use Rattle.model.specs.Sheet.{GuillotineSheet, Insertion, Place, new_sheet, places, best_place, split_rects, insert_at, try_insert}
use Rattle.trust.proofs.Placing.{Good, best_place_good}
use Rattle.trust.proofs.Merging.{merge_rounds_done}
use Rattle.fits.specs.declared.choice.Score.{Score}
use Rattle.sheet.specs.Bounds.{Small, Inside}
use Rattle.sheet.proofs.split.Remainders.{split_small, swap_small}
use Rattle.sheet.proofs.merging.Rounds.{rounds_small}
use Rattle.sheet.specs.Places.{place_at, Shows, sheet_with, FindsBest}
use Rattle.sheet.specs.declared.Inserted.{Inserted}
use Rattle.sheet.specs.Insertions.{Ready, At, split_by, Replaces, InsertsInto, Inserts}

-- ---- what the answer of the search says

module _ (kerf : ℕ) (pattern : PatternDirection) (cut : CutInstance) (h : BaselineGuillotineHeuristic) (free : List Rect) where
  -- no place: the rectangles stay
  pub stays : FindsBest free cut pattern h None → Inserts kerf pattern cut h free free None
  unfolding try_insert
  stays f = record { place = f.place; merged = rw (← f.place); rects = rw (← f.place) }

  module _ (i : ℕ) (r : Rect) (q : FitResult) (score : Score) (f : FindsBest free cut pattern h (Some (record { index = i; free_rect = r; fit = q; score = score }))) where
    good : Good (sheet_with free pattern) (record { cut = cut; heuristic = h }) (place_at i r q)
    good = best_place_good (sheet_with free pattern) (record { cut = cut; heuristic = h }) (place_at i r q) (sym f.place)

    pub found_at : At free i r
    found_at = record { inside = good.inside; there = good.there }

    pub found_inside : Inside q.rect r
    found_inside = record { across = good.fits.corner.width; along = good.fits.corner.length }

    split_same : split_by kerf i r q.rect (split_direction r q.rect h.split) free ≡ split_rects kerf (sheet_with free pattern) (record { cut = cut; heuristic = h }) (place_at i r q)
    unfolding split_rects split_by
    split_same = refl

    pub inserts : (after : List Rect) (m : Bool) → Replaces kerf (split_by kerf i r q.rect (split_direction r q.rect h.split) free) after m
        → Inserts kerf pattern cut h free after (Some (record { index = i; free_rect = r; fit = q; merged = m }))
    unfolding try_insert insert_at
    inserts after m k =
        record {
          place = f.place;
          merged = rw (← f.place) (ap some (k.any ∙ ap (merges_any kerf) split_same));
          rects = rw (← f.place) (k.rects ∙ ap (merge_free_rects kerf) split_same);
        }

-- ---- every sheet that has the rectangles

module _ (kerf : ℕ) (pattern : PatternDirection) (cut : CutInstance) (h : BaselineGuillotineHeuristic) (free : List Rect) (s : GuillotineSheet) (shows : Shows free pattern s) where
  abbrev i : Insertion
  i = record { cut = cut; heuristic = h }

  abbrev bare : GuillotineSheet
  bare = sheet_with free pattern

  best_same : best_place bare i ≡ best_place s i
  unfolding best_place places
  best_same = rw (shows.rects, shows.grain)

  split_any : (p : Place) → split_rects kerf bare i p ≡ split_rects kerf s i p
  unfolding split_rects
  split_any p = rw shows.rects

  merged_rects : (p : Place) → (insert_at kerf bare i p).free_rects ≡ (insert_at kerf s i p).free_rects
  unfolding insert_at
  merged_rects p = ap (merge_free_rects kerf) (split_any p)

  pub into_any : (after : List Rect) (r : Language.Option Inserted) → Inserts kerf pattern cut h free after r → InsertsInto kerf s i free after r
  unfolding try_insert
  into_any after r t =
      record {
        place = t.place ∙ best_same;
        merged = t.merged ∙ any (best_place bare i) ∙ ap (λ (o : Option Place). o >>= λ p. some (merges_any kerf (split_rects kerf s i p))) best_same;
        rects = t.rects ∙ rects (best_place bare i) ∙ ap (λ (o : Option Place). elim (o >>= λ p. some (insert_at kerf s i p)) [ none ↦ free | some t ↦ t.free_rects ]) best_same;
      }
    where
      any : (o : Option Place) → (o >>= λ p. some (merges_any kerf (split_rects kerf bare i p))) ≡ (o >>= λ p. some (merges_any kerf (split_rects kerf s i p)))
      any none = refl
      any (some p) = ap (λ (l : List Rect). some (merges_any kerf l)) (split_any p)

      rects : (o : Option Place) → ◌≡◌ {A = List Rect} (elim (o >>= λ p. some (insert_at kerf bare i p)) [ none ↦ free | some t ↦ t.free_rects ]) (elim (o >>= λ p. some (insert_at kerf s i p)) [ none ↦ free | some t ↦ t.free_rects ])
      rects none = refl
      rects (some p) = merged_rects p

-- ---- what a caller needs to go on

-- the bare board
pub new_shows : (stock : StockInstance) → Shows (stock_rect stock ∷ []) stock.pattern (new_sheet stock)
unfolding new_sheet
new_shows stock = record { rects = refl; grain = refl }

pub new_ready : (kerf : ℕ) (stock : StockInstance) → kerf ≤ most_side → stock.width ≤ most_side → stock.length ≤ most_side → Ready kerf (new_sheet stock).free_rects
unfolding new_sheet find_pair find_right
new_ready kerf stock k w l = record { thin = k; small = (record { across = omega arith; along = omega arith }, tt); apart = refl }

-- an insertion keeps the rectangles ready
module _ (kerf : ℕ) (s : GuillotineSheet) (i : Insertion) where
  pub insert_ready : (p : Place) → best_place s i ≡ some p → Ready kerf s.free_rects → Ready kerf (insert_at kerf s i p).free_rects
  unfolding insert_at merge_free_rects split_rects
  insert_ready p e ready =
      let g = best_place_good s i p e in
      let r : Small p.free_rect = rw g.there at (all_get Small s.free_rects p.index no_rect ready.small g.inside) in
      let d = split_direction p.free_rect p.fit.rect i.heuristic.split in
      let old = swap_remove no_rect p.index s.free_rects in
      let new = split_free_rect d kerf p.free_rect p.fit.rect in
      let inside : Inside p.fit.rect p.free_rect = record { across = g.fits.corner.width; along = g.fits.corner.length } in
      record {
        thin = ready.thin;
        small = rounds_small (length (old ++ new)) kerf (old ++ new)
            (all_append Small old new (swap_small s.free_rects p.index g.inside ready.small) (split_small kerf p.free_rect p.fit.rect r inside d));
        apart = merge_rounds_done kerf (length (old ++ new)) (old ++ new) (omega arith);
      }

  -- the answer `None`: the definition inserts nothing, and the rectangles are as they were
  pub inserts_nothing : (free after : List Rect) → InsertsInto kerf s i free after None → (try_insert kerf s i ≡ none) × (after ≡ free)
  unfolding try_insert
  inserts_nothing free after t = (rw (← t.place), t.rects ∙ rw (← t.place))

pub untouched : (kerf : ℕ) (pattern : PatternDirection) (cut : CutInstance) (h : BaselineGuillotineHeuristic) (free after : List Rect)
    → Inserts kerf pattern cut h free after None → after ≡ free
untouched kerf pattern cut h free after t = (inserts_nothing kerf (sheet_with free pattern) (record { cut = cut; heuristic = h }) free after t).1

-- the answer `Some`: the sheet that the definition makes, which has the rectangles then, ready for the next
pub record Placed (kerf : ℕ) (s : GuillotineSheet) (i : Insertion) (p : Place) (m : Bool) (after : List Rect) : Type 0 where
  pub is : try_insert kerf s i ≡ some (insert_at kerf s i p)
  pub best : best_place s i ≡ some p
  pub merged : m ≡ merges_any kerf (split_rects kerf s i p)
  pub rects : after ≡ (insert_at kerf s i p).free_rects
  pub shows : Shows after s.stock.pattern (insert_at kerf s i p)
  pub ready : Ready kerf after

pub inserts_at : (kerf : ℕ) (s : GuillotineSheet) (i : Insertion) (free after : List Rect) (k : ℕ) (r : Rect) (f : FitResult) (m : Bool)
    → InsertsInto kerf s i free after (Some (record { index = k; free_rect = r; fit = f; merged = m })) → Ready kerf s.free_rects → Placed kerf s i (place_at k r f) m after
unfolding try_insert insert_at
inserts_at kerf s i free after k r f m t ready =
    let p = place_at k r f in
    let b : best_place s i ≡ some p = sym t.place in
    let e : after ≡ (insert_at kerf s i p).free_rects = t.rects ∙ rw b in
    record {
      is = rw b;
      best = b;
      merged = some-injective _ _ (t.merged ∙ rw b);
      rects = e;
      shows = record { rects = sym e; grain = refl };
      ready = rw e (insert_ready kerf s i p b ready);
    }
