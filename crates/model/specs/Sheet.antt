-- A sheet and an insertion into it: `GuillotineSheet`, `new`, `try_insert`.
-- A sheet is its state, as in the source. Each placed piece also keeps its cut and the heuristic that placed it (added):
-- the sheet's making, from which the sheet can be rebuilt.
use Rattle.std.specs.Prelude.{ℕ, Bool, List, [], ◌∷◌, ◌++◌, map, if◌then◌else◌}
use Rattle.std.proofs.Math.Option.{Option, none, some}
use Rattle.lists.specs.Base.{◌>>=◌, is_less, lexicographic, sum, enumerate, concat_map, first_best, fold_option, swap_remove}
use Rattle.model.specs.Types.{BaselineGuillotineHeuristic, Rect, StockInstance, CutInstance, InstanceKey, FitResult, area, no_rect, stock_rect, cut_key}
use Rattle.model.specs.Fit.{fit_cut_in_rects}
use Rattle.model.specs.Choice.{free_rect_choice_score}
use Rattle.model.specs.Split.{split_direction, split_free_rect}
use Rattle.model.specs.Merge.{merge_free_rects, merges_any}
use Rattle.model.specs.Guide.{SliceNode, leaf, free, insert_subtree, replace_free_leaf}

-- one insertion of a sheet's making
pub record Insertion : Type 0 where
  pub cut : CutInstance
  pub heuristic : BaselineGuillotineHeuristic

-- PlacedPiece: its cut_id and instance are the cut's, its rect, pattern and rotated the fit's
pub record PlacedPiece : Type 0 where
  pub by : Insertion
  pub fit : FitResult

-- GuillotineSheet; its kerf_width is that of the instance, and is passed
pub record GuillotineSheet : Type 0 where
  pub stock : StockInstance
  pub free_rects : List Rect
  pub placed_pieces : List PlacedPiece
  pub slicing_tree : Option SliceNode

-- GuillotineSheet::new
unfoldable pub new_sheet : StockInstance → GuillotineSheet
new_sheet stock =
    record { stock = stock; free_rects = stock_rect stock ∷ []; placed_pieces = []; slicing_tree = some (leaf (stock_rect stock) free) }

-- a free rectangle, its place among them, and a fit in it
pub record Place : Type 0 where
  pub index : ℕ
  pub free_rect : Rect
  pub fit : FitResult

-- all of them, by rectangle and then fit
unfoldable pub places : GuillotineSheet → Insertion → List Place
places sheet i =
    concat_map
    (λ (k, r). map (λ f. record { index = k; free_rect = r; fit = f }) (fit_cut_in_rects i.cut sheet.stock.pattern r i.heuristic.rotation))
    (enumerate sheet.free_rects)

unfoldable pub score_less : BaselineGuillotineHeuristic → Place → Place → Bool
score_less h a b =
    is_less (lexicographic (free_rect_choice_score a.free_rect a.fit.rect h.rect_choice) (free_rect_choice_score b.free_rect b.fit.rect h.rect_choice))

-- the first lowest score
unfoldable pub best_place : GuillotineSheet → Insertion → Option Place
best_place sheet i = first_best (score_less i.heuristic) (places sheet i)

-- the free rectangles right before merging
unfoldable pub split_rects : ℕ → GuillotineSheet → Insertion → Place → List Rect
split_rects kerf sheet i p =
    swap_remove no_rect p.index sheet.free_rects
    ++ split_free_rect (split_direction p.free_rect p.fit.rect i.heuristic.split) kerf p.free_rect p.fit.rect

-- the guide before merging
unfoldable pub split_tree : ℕ → GuillotineSheet → Insertion → Place → Option SliceNode
split_tree kerf sheet i p =
    sheet.slicing_tree
    >>= λ tree. insert_subtree (split_direction p.free_rect p.fit.rect i.heuristic.split) kerf p.free_rect p.fit.rect i.cut
    >>= λ subtree. replace_free_leaf tree p.free_rect subtree

-- the rest of try_insert, once a place is found
unfoldable pub insert_at : ℕ → GuillotineSheet → Insertion → Place → GuillotineSheet
insert_at kerf sheet i p =
    record {
      stock = sheet.stock;
      free_rects = merge_free_rects kerf (split_rects kerf sheet i p);
      placed_pieces = sheet.placed_pieces ++ (record { by = i; fit = p.fit } ∷ []);
      slicing_tree = if merges_any kerf (split_rects kerf sheet i p) then none else split_tree kerf sheet i p;
    }

-- try_insert: none where it returns false and leaves the sheet unchanged
unfoldable pub try_insert : ℕ → GuillotineSheet → Insertion → Option GuillotineSheet
try_insert kerf sheet i = best_place sheet i >>= λ p. some (insert_at kerf sheet i p)

-- a sheet made from the bare board by insertions, each of which finds a place
unfoldable pub rebuild : ℕ → StockInstance → List Insertion → Option GuillotineSheet
rebuild kerf stock making = fold_option (try_insert kerf) (new_sheet stock) making

unfoldable pub making_of : GuillotineSheet → List Insertion
making_of sheet = map (λ p. p.by) sheet.placed_pieces

-- placed_cut_keys of a bin
unfoldable pub sheet_keys : GuillotineSheet → List InstanceKey
sheet_keys sheet = map (λ p. cut_key p.by.cut) sheet.placed_pieces

unfoldable pub placed_area : GuillotineSheet → ℕ
placed_area sheet = sum (map (λ p. area p.fit.rect) sheet.placed_pieces)
