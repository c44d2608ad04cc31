-- The winner's sheets, as they are read back, obey the piece rules.
use Prim.Native.Nat.{ℕ, ◌+◌, ◌≤◌}
use native.Mathlib.Omega.{arith}
use mathlib.Core.Path.{◌≡◌, refl, sym, ap, ◌∙◌}
use mathlib.Core.Bool.{false, not}
use mathlib.Core.List.Memᴰ
use mathlib.Core.List.{List, [], ◌∷◌, ◌++◌, map, map-map, Memᴰ}
use lib.Dec.{T, leb, eqb, eqb_refl, le→leb}
use borrow.Author.Tests.{eq-eqb}
use lib.ListN.{length}
use Rattle.lists.specs.Base.{any, all, retain, concat_map}
use Rattle.lists.specs.Elements.{Perm, All, Pairs}
use Rattle.model.specs.declared.Rect.{Rect}
use Rattle.model.specs.declared.StockInstance.{StockInstance}
use Rattle.model.specs.declared.CutInstance.{CutInstance}
use Rattle.model.specs.declared.InstanceKey.{InstanceKey}
use Rattle.model.specs.Types.{stock_rect, stock_key, cut_key, same_key}
use Rattle.model.specs.Sheet.{GuillotineSheet, PlacedPiece, making_of, sheet_keys}
use Rattle.model.specs.Candidate.{Candidate, contains_key, has_duplicate_keys}
use Rattle.model.specs.Expand.{ProblemInstance}
use Rattle.lists.proofs.Perm.{perm_sym, all_map, all_both, all_left, all_right, pairs_perm, mem_perm, all_self}
use Rattle.lists.proofs.Sums.{map_append}
use Rattle.lists.proofs.Every.{map_all, all_of_map, pairs_left, pairs_each}
use Rattle.lists.proofs.Booleans.{is_false}
use Rattle.trust.specs.Words.{PieceIn, SheetIn, pieces_in}
use Rattle.trust.specs.PieceRules.{keys_in, lies_once, uses_board, of_its_size, on_rack, is_panel, has_fit, inside_board, kerf_apart, pairwise, piece_rects_in, PiecesObey}
use Rattle.trust.specs.Sound.{Apart, Legal, Within, piece_rects}
use Rattle.trust.specs.Proper.{SheetOk, boards_of, cuts_of, placed_cuts}
use Rattle.trust.specs.Admitted.{Admitted, DifferBoards, Distinct}
use Rattle.trust.proofs.Candidate.{same_key_refl}
use Rattle.trust.proofs.Keys.{sheet_keys_cuts}
use Rattle.trust.proofs.Crossover.{board_sym}
use Rattle.trust.proofs.Once.{times, times_perm, own_once}
use Rattle.trust.proofs.Search.{Won}
use Rattle.trust.proofs.Prefilter.{any_mem}
use Rattle.trust.proofs.Distance.{apart_passed}
use Rattle.trust.proofs.Truth.{and_intro, of_true, all_passed, pairs_passed}
use Rattle.trust.proofs.RoundTrip.{piece_view, sheet_view}
use Rattle.trust.proofs.Fitting.{PieceMatters, rebuilt_matters, piece_is_fit}

-- ---- panels exactly once

-- the keys of the pieces read are those of the cuts placed
pub keys_read : (bins : List GuillotineSheet) → keys_in (map sheet_view bins) ≡ map cut_key (placed_cuts bins)
unfolding keys_in pieces_in concat_map
keys_read [] = refl
keys_read (b ∷ bins) =
    map_append (λ (p : PieceIn). p.key) (sheet_view b).pieces (concat_map (λ (s : SheetIn). s.pieces) (map sheet_view bins))
    ∙ (λ i. own i ++ keys_read bins i)
    ∙ sym (map_append cut_key (cuts_of b) (placed_cuts bins))
  where
    own : map (λ (p : PieceIn). p.key) (sheet_view b).pieces ≡ map cut_key (cuts_of b)
    own = unfold sheet_view piece_view sheet_keys in (map-map (λ (p : PieceIn). p.key) piece_view b.placed_pieces ∙ sheet_keys_cuts b)

panels_once_lem : (bins : List GuillotineSheet) (cs : List CutInstance) → Distinct cs → Perm (placed_cuts bins) cs → T (all (lies_once (map sheet_view bins)) cs)
unfolding lies_once
panels_once_lem bins cs d p =
    all_passed (lies_once (map sheet_view bins)) cs
    (all_map (λ c. times (cut_key c) cs ≡ 1) (λ c. T (lies_once (map sheet_view bins) c))
    (λ c e. of_true (eq-eqb _ 1 (ap (λ (ks : List InstanceKey). length (retain (same_key (cut_key c)) ks)) (keys_read bins) ∙ times_perm (cut_key c) p ∙ e)))
    cs (own_once cs d))

-- ---- boards

board_on_rack : (stock : List StockInstance) (s : GuillotineSheet) → Memᴰ s.stock stock → T (on_rack stock (sheet_view s))
unfolding on_rack uses_board of_its_size sheet_view
board_on_rack stock s m =
    any_mem _ stock m
    (and_intro (same_key (stock_key s.stock) (stock_key s.stock)) _ (same_key_refl (stock_key s.stock))
    (and_intro (eqb s.stock.width s.stock.width) _ (eqb_refl s.stock.width) (eqb_refl s.stock.length)))

no_duplicates : (ks : List InstanceKey) → Pairs (λ a b. T (not (same_key a b))) ks → T (not (has_duplicate_keys ks))
unfolding has_duplicate_keys contains_key any
no_duplicates [] h = tt
no_duplicates (k ∷ ks) h = rw (absent ks h.0) (no_duplicates ks h.1)
  where
    absent : (ls : List InstanceKey) → All (λ l. T (not (same_key k l))) ls → any (same_key k) ls ≡ false
    absent [] g = refl
    absent (l ∷ ls) g = rw (is_false (same_key k l) g.0) (absent ls g.1)

-- ---- inside and apart

pub inside_passed : (b : GuillotineSheet) (r : Rect) → Within (stock_rect b.stock) r → T (inside_board (sheet_view b) r)
unfolding inside_board sheet_view
inside_passed b r w =
    let h : r.x + r.width ≤ b.stock.width = omega arith in
    let k : r.y + r.length ≤ b.stock.length = omega arith in
    and_intro (leb (r.x + r.width) b.stock.width) (leb (r.y + r.length) b.stock.length) (le→leb _ _ h) (le→leb _ _ k)

pub rects_read : (b : GuillotineSheet) → piece_rects_in (sheet_view b) ≡ piece_rects b.placed_pieces
unfolding sheet_view piece_view
rects_read b = map-map (λ (p : PieceIn). p.rect) piece_view b.placed_pieces

module _ (kerf : ℕ) (b : GuillotineSheet) (ok : SheetOk kerf b) where
  abbrev rects : List Rect
  rects = piece_rects b.placed_pieces

  within : All (Within (stock_rect b.stock)) rects
  within = all_left _ rects b.free_rects ok.layout.within

  pub pieces_inside : T (all (inside_board (sheet_view b)) (piece_rects_in (sheet_view b)))
  pieces_inside = rw (rects_read b) (all_passed (inside_board (sheet_view b)) rects (all_map _ _ (inside_passed b) rects within))

  pub pieces_apart : T (pairwise (kerf_apart kerf) (piece_rects_in (sheet_view b)))
  pieces_apart =
      rw (rects_read b) (pairs_passed (kerf_apart kerf) rects (pairs_each (Apart kerf) _ (apart_passed kerf) rects (pairs_left (Apart kerf) rects b.free_rects ok.layout.apart)))

  -- ---- fits

  piece_fits : (inst : ProblemInstance) (p : PlacedPiece) → Memᴰ b.stock inst.stock → Memᴰ p.by.cut inst.cuts → Legal b.stock.pattern p → PieceMatters p
      → Within (stock_rect b.stock) p.fit.rect → T (has_fit inst (sheet_view b) (piece_view p))
  unfolding has_fit uses_board is_panel sheet_view piece_view
  piece_fits inst p m n g t w =
      any_mem _ inst.stock m
      (and_intro (same_key (stock_key b.stock) (stock_key b.stock)) _ (same_key_refl (stock_key b.stock))
      (any_mem _ inst.cuts n (and_intro (same_key (cut_key p.by.cut) (cut_key p.by.cut)) _ (same_key_refl (cut_key p.by.cut)) (piece_is_fit b.stock p g t w))))

  pub pieces_fit : (inst : ProblemInstance) → Memᴰ b.stock inst.stock → All (λ p. Memᴰ p.by.cut inst.cuts) b.placed_pieces
      → T (all (has_fit inst (sheet_view b)) (sheet_view b).pieces)
  unfolding sheet_view
  pieces_fit inst m ns =
      all_passed (has_fit inst (sheet_view b)) (map piece_view b.placed_pieces)
      (go b.placed_pieces ns ok.legal (rebuilt_matters kerf b.stock (making_of b) b ok.rebuilt) within)
    where
      go : (ps : List PlacedPiece) → All (λ p. Memᴰ p.by.cut inst.cuts) ps → All (Legal b.stock.pattern) ps → All PieceMatters ps
          → All (Within (stock_rect b.stock)) (piece_rects ps) → All (λ q. T (has_fit inst (sheet_view b) q)) (map piece_view ps)
      go [] n g t w = tt
      go (p ∷ ps) n g t w = (piece_fits inst p m n.0 g.0 t.0 w.0, go ps n.1 g.1 t.1 w.1)

-- ---- all sheets

-- what holds of every cut placed holds of every piece's
by_piece : (P : CutInstance → Type 0) (bins : List GuillotineSheet) → All P (placed_cuts bins) → All (λ b. All (λ p. P p.by.cut) b.placed_pieces) bins
unfolding concat_map cuts_of making_of
by_piece P [] h = tt
by_piece P (b ∷ bins) h = (go b.placed_pieces (all_left P (cuts_of b) (placed_cuts bins) h), by_piece P bins (all_right P (cuts_of b) (placed_cuts bins) h))
  where
    go : (ps : List PlacedPiece) → All P (map (λ i. i.cut) (map (λ (p : PlacedPiece). p.by) ps)) → All (λ p. P p.by.cut) ps
    go [] k = tt
    go (p ∷ ps) k = (k.0, go ps k.1)

-- every piece is a panel of the instance
abbrev pub OfPanels : ProblemInstance → GuillotineSheet → Type 0
OfPanels inst b = All (λ p. Memᴰ p.by.cut inst.cuts) b.placed_pieces

pub of_panels : (P : GuillotineSheet → Type 0) (inst : ProblemInstance) (c : Candidate) → Won P inst c → All (OfPanels inst) c.bins
of_panels P inst c w =
    let cuts = placed_cuts c.bins in
    by_piece (λ (x : CutInstance). Memᴰ x inst.cuts) c.bins (all_map (λ x. Memᴰ x cuts) _ (λ x m. mem_perm w.panels m) cuts (all_self cuts))

boards_differ : (bins : List GuillotineSheet) → Pairs DifferBoards (boards_of bins) → Pairs (λ a b. T (not (same_key a b))) (map (λ s. s.key) (map sheet_view bins))
unfolding sheet_view
boards_differ [] h = tt
boards_differ (b ∷ bins) h = (others bins h.0, boards_differ bins h.1)
  where
    others : (bs : List GuillotineSheet) → All (DifferBoards b.stock) (boards_of bs) → All (λ k. T (not (same_key (stock_key b.stock) k))) (map (λ s. s.key) (map sheet_view bs))
    others [] k = tt
    others (c ∷ bs) k = (k.0, others bs k.1)

pub pieces_obey : (inst : ProblemInstance) → Admitted inst → (c : Candidate) → Won (SheetOk inst.kerf_width) inst c → PiecesObey inst (map sheet_view c.bins)
pieces_obey inst a c w =
    record {
      panels_once = panels_once_lem bins inst.cuts a.own_panels w.panels;
      boards = all_passed _ (map sheet_view bins) (map_all _ _ sheet_view (λ b m. board_on_rack inst.stock b m) bins boards);
      boards_once = no_duplicates _ (boards_differ bins (pairs_left DifferBoards (boards_of bins) c.available_stock (pairs_perm DifferBoards board_sym (perm_sym w.stock) a.own_boards)));
      fits = all_passed _ (map sheet_view bins) (map_all Whole _ sheet_view (λ b h. pieces_fit inst.kerf_width b h.0 inst h.1 h.2) bins whole);
      inside = all_passed _ (map sheet_view bins) (map_all _ _ sheet_view (λ b h. pieces_inside inst.kerf_width b h) bins w.sheets);
      apart = all_passed _ (map sheet_view bins) (map_all _ _ sheet_view (λ b h. pieces_apart inst.kerf_width b h) bins w.sheets);
    }
  where
    bins : List GuillotineSheet
    bins = c.bins

    OnBoard : GuillotineSheet → Type 0
    OnBoard b = Memᴰ b.stock inst.stock

    Whole : GuillotineSheet → Type 0
    Whole b = SheetOk inst.kerf_width b × OnBoard b × OfPanels inst b

    boards : All OnBoard bins
    boards =
        all_of_map (λ (s : StockInstance). Memᴰ s inst.stock) (λ (b : GuillotineSheet). b.stock) bins
        (all_map (λ s. Memᴰ s (boards_of bins)) _ (λ s m. mem_perm w.stock (Memᴰ.append_left c.available_stock m)) (boards_of bins) (all_self (boards_of bins)))

    whole : All Whole bins
    whole = all_both (λ b. OnBoard b × OfPanels inst b) (SheetOk inst.kerf_width) Whole (λ b h k. (k, h.0, h.1)) bins (all_both OnBoard (OfPanels inst) _ (λ b h k. (h, k)) bins boards (of_panels _ inst c w)) w.sheets
