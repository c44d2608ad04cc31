-- A sheet's words from the bare board through an insertion.
use Rattle.std.specs.Prelude.{None, Some}
use Prim.Native.Nat.{ℕ, ◌+◌, ◌*◌, ◌≤◌, ◌<◌}
use native.Mathlib.Omega.{arith}
use mathlib.Core.Path.{◌≡◌, refl, sym, ap, ◌∙◌}
use mathlib.Core.Bool.{Bool}
use mathlib.Core.List.{List, [], ◌∷◌, ◌++◌, append-nil}
use mathlib.Core.Option.{some, some-injective, none-ne-some}
use lib.ListN.{length, take, drop, length-append, take-append-drop}
use lib.Seq.{drop_at, drop-length}
use Rattle.lists.specs.Base.{sum, concat_map}
use Rattle.lists.specs.Parts.{patch}
use Rattle.lists.proofs.Sums.{sum_append}
use Rattle.lists.proofs.Maps.{concat_map_append}
use Rattle.lists.proofs.Parts.{patch_nil, then_patch}
use Rattle.model.specs.declared.Rect.{Rect}
use Rattle.model.specs.declared.StockInstance.{StockInstance}
use Rattle.model.specs.declared.FitResult.{FitResult}
use Rattle.model.specs.Types.{area, stock_rect}
use Rattle.model.specs.Guide.{leaf, free}
use Rattle.model.specs.Split.{split_direction}
use Rattle.model.specs.Sheet.{GuillotineSheet, PlacedPiece, Insertion, Place, new_sheet, insert_at, try_insert, placed_area}
use Rattle.model.specs.Plan.{piece_words}
use Rattle.trust.specs.Admitted.{PanelRange}
use Rattle.trust.specs.Proper.{Bounded}
use Rattle.trust.proofs.Placing.{best_place_good}
use Rattle.trust.proofs.Bounded.{try_insert_bounded, placed_most, board_area_most}
use Rattle.trust.proofs.RoundTrip.{pieces_size}
use Rattle.sheet.specs.Places.{place_at, Shows}
use Rattle.sheet.specs.Insertions.{Insertable, InsertsInto}
use Rattle.sheet.proofs.Sheets.{new_shows, new_ready, inserts_nothing, Placed, inserts_at}
use Rattle.guide.specs.declared.subtree.Node.{Node}
use Rattle.guide.specs.Nodes.{guide_nodes, InCorner}
use Rattle.guide.proofs.Guides.{next_nodes_are}
use Rattle.guide.proofs.Sheets.{next_guide_is, in_corner, room}
use Rattle.plan.specs.declared.sheet_plan.Progress.{Progress}
use Rattle.plan.specs.Replaying.{new_pieces, Replayed, Boardable, Takeable, Takes}

-- ---- the bare board

pub bare : (kerf : ℕ) (stock : StockInstance) (w : List Rect) (g : List Node) → Boardable kerf stock
    → w ≡ stock_rect stock ∷ [] → g ≡ guide_nodes (some (leaf (stock_rect stock) free)) → Replayed kerf (new_sheet stock) w g (record { pieces = 0; placed = 0 })
unfolding new_sheet placed_area sum
bare kerf stock w g b e guide =
    record {
      free = rw e (new_shows stock);
      ready = rw e (new_ready kerf stock b.thin b.board.width b.board.length);
      nodes = guide;
      pieces = refl;
      placed = refl;
    }

-- ---- an insertion

-- the sheet with a piece more
module _ (kerf : ℕ) (s : GuillotineSheet) (i : Insertion) (p : Place) where
  abbrev placed : PlacedPiece
  placed = record { by = i; fit = p.fit }

  more_area : placed_area (insert_at kerf s i p) ≡ placed_area s + area p.fit.rect
  unfolding insert_at placed_area sum
  more_area = omega (arith, sum_append (λ (q : PlacedPiece). area q.fit.rect) s.placed_pieces (placed ∷ []))

  more_pieces : length (insert_at kerf s i p).placed_pieces ≡ length s.placed_pieces + 1
  unfolding insert_at
  more_pieces = length-append s.placed_pieces (placed ∷ [])

  new_piece : new_pieces s (insert_at kerf s i p) ≡ piece_words placed ++ []
  unfolding insert_at new_pieces concat_map
  new_piece = ap (concat_map piece_words) (drop_at s.placed_pieces (placed ∷ []) (length s.placed_pieces) refl)

  own_grain : (w : List Rect) → Shows w s.stock.pattern (insert_at kerf s i p) → Shows w (insert_at kerf s i p).stock.pattern (insert_at kerf s i p)
  unfolding insert_at
  own_grain w h = h

-- an insertion that is not the sheet's
pub no_piece : (s : GuillotineSheet) (l : List ℕ) (at : ℕ) → l ≡ patch l at (new_pieces s s)
unfolding new_pieces concat_map
no_piece s l at = patch_nil l at ∙ ap (λ (ps : List PlacedPiece). patch l at (concat_map piece_words ps)) (sym (drop-length s.placed_pieces))

module _ (kerf : ℕ) (s t : GuillotineSheet) (i : Insertion) (w : List Rect) (g : List Node) (p : Progress) (state : Replayed kerf s w g p) (bounded : Bounded kerf s)
    (step : try_insert kerf s i ≡ some t) where
  pub insertable : length s.placed_pieces < 64 → Insertable kerf w
  insertable few =
      record {
        few = omega (arith, ap length state.free.rects, bounded.free);
        ready = state.ready;
      }

  pub not_nothing : (w' : List Rect) → InsertsInto kerf s i w w' None → ⊥
  not_nothing w' e = none-ne-some t (sym (inserts_nothing kerf s i w w' e).0 ∙ step)

  module _ (w' : List Rect) (k : ℕ) (r : Rect) (f : FitResult) (m : Bool) (into : InsertsInto kerf s i w w' (Some (record { index = k; free_rect = r; fit = f; merged = m }))) where
    done : Placed kerf s i (place_at k r f) m w'
    done = inserts_at kerf s i w w' k r f m into (rw state.free.rects state.ready)

    is_next : t ≡ insert_at kerf s i (place_at k r f)
    is_next = some-injective _ _ (sym step ∙ done.is)

    corner : PanelRange i.cut → InCorner r f.rect
    corner panel =
        in_corner kerf s i (place_at k r f) panel.wide panel.long (omega (arith, bounded.board.width)) (omega (arith, bounded.board.length))
        (best_place_good s i (place_at k r f) done.best) bounded.layout

    pub takeable : (l : List ℕ) → PanelRange i.cut → 9 * length t.placed_pieces ≤ length l → length t.placed_pieces ≤ 64 → Takeable l g r f p
    takeable l panel fits few =
        let more : length t.placed_pieces ≡ length s.placed_pieces + 1 = ap (λ (u : GuillotineSheet). length u.placed_pieces) is_next ∙ more_pieces kerf s i (place_at k r f) in
        let wider : placed_area t ≡ placed_area s + area f.rect = ap placed_area is_next ∙ more_area kerf s i (place_at k r f) in
        let next = try_insert_bounded kerf s i t panel step bounded in
        record {
          room = omega (arith, state.pieces);
          space = room g s state.nodes bounded.nodes (omega arith);
          corner = corner panel;
          area = omega (arith, state.placed, placed_most kerf t next.layout, board_area_most t.stock next.board);
        }

    module _ (l l' : List ℕ) (g' : List Node) (q : Progress) (takes : Takes kerf i.cut i.heuristic r f m p l l' g g' q) where
      pub written : l' ≡ patch l (9 * length s.placed_pieces) (new_pieces s t)
      written =
          takes.words
          ∙ ap (λ (n : ℕ). patch l (9 * n) (piece_words (placed kerf s i (place_at k r f)))) state.pieces
          ∙ ap (patch l (9 * length s.placed_pieces)) (sym (append-nil (piece_words (placed kerf s i (place_at k r f)))) ∙ sym (new_piece kerf s i (place_at k r f)) ∙ ap (new_pieces s) (sym is_next))

      grown : PanelRange i.cut → Replayed kerf (insert_at kerf s i (place_at k r f)) w' g' q
      grown panel =
          record {
            free = own_grain kerf s i (place_at k r f) w' done.shows;
            ready = done.ready;
            nodes = rw (next_guide_is kerf s i (place_at k r f), ← done.merged) (takes.nodes ∙ next_nodes_are (split_direction r f.rect i.heuristic.split) kerf r f.rect i.cut (corner panel) m g s.slicing_tree state.nodes);
            pieces = omega (arith, takes.pieces, state.pieces, more_pieces kerf s i (place_at k r f));
            placed = omega (arith, takes.placed, state.placed, more_area kerf s i (place_at k r f));
          }

      pub replayed : PanelRange i.cut → Replayed kerf t w' g' q
      replayed panel = rw is_next (grown panel)

-- ---- the pieces' words

-- new ones behind the old
pub pieces_more : (l₀ l l' : List ℕ) (s t : GuillotineSheet) → 9 * length s.placed_pieces ≤ length l₀ → take (length s.placed_pieces) t.placed_pieces ≡ s.placed_pieces
    → l ≡ patch l₀ 0 (concat_map piece_words s.placed_pieces) → l' ≡ patch l (9 * length s.placed_pieces) (new_pieces s t) → l' ≡ patch l₀ 0 (concat_map piece_words t.placed_pieces)
unfolding new_pieces
pieces_more l₀ l l' s t room first e f =
    let old = s.placed_pieces in
    let new = drop (length old) t.placed_pieces in
    let all : old ++ new ≡ t.placed_pieces = ap (λ (ps : List PlacedPiece). ps ++ new) (sym first) ∙ take-append-drop (length old) t.placed_pieces in
    let size : 9 * length old ≡ 0 + length (concat_map piece_words old) = omega (arith, pieces_size old) in
    then_patch l₀ l l' 0 (concat_map piece_words old) (concat_map piece_words new) (9 * length old) e f size (omega arith)
    ∙ ap (patch l₀ 0) (sym (concat_map_append piece_words old new) ∙ ap (concat_map piece_words) all)
