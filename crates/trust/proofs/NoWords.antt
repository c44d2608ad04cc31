-- At 15 and 16 no words obey the piece rules, whoever drew them.
use Prim.Native.Nat.{ℕ, ◌+◌, ◌≤◌}
use native.Mathlib.Omega.{arith}
use mathlib.Core.Path.{◌≡◌, refl, sym, ap, ◌∙◌, subst, subst₂}
use mathlib.Core.Bool.{Bool, true, false, not, ◌&&◌, ◌||◌}
use mathlib.Core.List.{List, [], ◌∷◌, ◌++◌, map, Memᴰ}
use mathlib.Core.Option.{none, some}
use lib.Dec.{T, T_not, leb, eqb, leb→le, eqb→eq}
use lib.ListN.{length}
use Rattle.lists.specs.Base.{any, all, retain, concat_map}
use Rattle.lists.specs.Elements.{Perm, All, Pairs}
use Rattle.model.specs.declared.Rect.{Rect}
use Rattle.model.specs.declared.BaselineGuillotineHeuristic.{BaselineGuillotineHeuristic}
use Rattle.model.specs.declared.GuillotineRectChoice.{GuillotineRectChoice}
use Rattle.model.specs.declared.GuillotineSplitHeuristic.{GuillotineSplitHeuristic}
use Rattle.model.specs.declared.RotationPreference.{RotationPreference}
use Rattle.model.specs.declared.StockInstance.{StockInstance}
use Rattle.model.specs.declared.CutInstance.{CutInstance}
use Rattle.model.specs.declared.InstanceKey.{InstanceKey}
use Rattle.model.specs.declared.FitResult.{FitResult}
use Rattle.model.specs.Types.{stock_rect, stock_key, cut_key, same_key}
use Rattle.model.specs.Fit.{fit_cut_in_rects}
use Rattle.model.specs.Sheet.{PlacedPiece}
use Rattle.model.specs.Candidate.{has_duplicate_keys, contains_key}
use Rattle.model.specs.Expand.{ProblemInstance}
use Rattle.model.specs.Refusal.{file_refusal}
use Rattle.model.specs.Answer.{prefilter}
use Rattle.lists.proofs.Perm.{all_map, in_all}
use Rattle.lists.proofs.Sums.{map_append}
use Rattle.lists.proofs.Every.{map_all, concat_map_all, pairs_each}
use Rattle.trust.specs.Words.{PieceIn, SheetIn, pieces_in, sheets_in}
use Rattle.trust.specs.PieceRules.{keys_in, lies_once, uses_board, of_its_size, on_rack, lies_as, is_fit, is_panel, has_fit, inside_board, kerf_apart, pairwise, piece_rects_in, PiecesObey, asked_by, PieceRules}
use Rattle.trust.specs.Sound.{Apart, Legal, Lies, Within, piece_rects, turned, upright}
use Rattle.trust.specs.Admitted.{Admitted, DifferBoards, Distinct}
use Rattle.trust.proofs.Placing.{Fits, fits_all}
use Rattle.trust.proofs.Candidate.{same_key_eq, same_key_refl}
use Rattle.trust.proofs.Crossover.{same_board}
use Rattle.trust.proofs.Checks.{admitted}
use Rattle.trust.proofs.Prefilter.{Laid, Obeys, no_layout}
use Rattle.trust.proofs.Distance.{apart_of}
use Rattle.trust.proofs.Truth.{and_split, all_of, pairs_of}
use Rattle.trust.proofs.Once.{once_perm, rest_of}

-- ---- tests that are passed

-- one of a list that passes
record Passing {A : Type 0} (p : A → Bool) (xs : List A) : Type 0 where
  one : A
  among : Memᴰ one xs
  passed : T (p one)

found : {A : Type 0} (p : A → Bool) (xs : List A) → T (any p xs) → Passing p xs
unfolding any
found p [] t = absurd t
found {A} p (x ∷ xs) t = go (p x) refl t (found p xs)
  where
    go : (b : Bool) → p x ≡ b → T (b || any p xs) → (T (any p xs) → Passing p xs) → Passing p (x ∷ xs)
    go true e h later = record { one = x; among = Memᴰ.head refl; passed = subst T (sym e) tt }
    go false e h later =
        let f = later h in
        record { one = f.one; among = Memᴰ.tail f.among; passed = f.passed }

neither : (a b : Bool) → T (not (a || b)) → T (not a) × T (not b)
neither true b t = absurd t
neither false b t = (tt, t)

-- ---- a piece as the source would place it

pub record LaidPiece (inst : ProblemInstance) (b : StockInstance) (p : PieceIn) : Type 0 where
  pub placed : PlacedPiece
  pub panel : Memᴰ placed.by.cut inst.cuts
  pub key : cut_key placed.by.cut ≡ p.key
  pub legal : Legal b.pattern placed
  pub rect : placed.fit.rect ≡ p.rect

-- how it was placed does not matter here
any_heuristic : BaselineGuillotineHeuristic
any_heuristic = record { rect_choice = GuillotineRectChoice.Area; split = GuillotineSplitHeuristic.Horizontal; rotation = RotationPreference.PreferUpright }

-- with the piece's rectangle, the fit's pattern and turned mark
placed_as : PieceIn → CutInstance → FitResult → PlacedPiece
placed_as p c f = record { by = record { cut = c; heuristic = any_heuristic }; fit = record { rect = p.rect; pattern = f.pattern; rotated = f.rotated } }

lies_so : (p : PieceIn) (c : CutInstance) (f : FitResult) → T (lies_as p f) → Lies c f → Lies c (placed_as p c f).fit
unfolding lies_as placed_as
lies_so p c f t l =
    let sw = eqb p.rect.width f.rect.width in
    let sl = eqb p.rect.length f.rect.length in
    let a = and_split (sw && sl && _) _ t in
    let b = and_split (sw && sl) _ a.0 in
    let d = and_split sw sl b.0 in
    go (eqb→eq _ _ d.0) (eqb→eq _ _ d.1) l
  where
    go : p.rect.width ≡ f.rect.width → p.rect.length ≡ f.rect.length → Lies c f → Lies c (placed_as p c f).fit
    go w k (upright x y q r) = upright (w ∙ x) (k ∙ y) q r
    go w k (turned m x y q r) = turned m (w ∙ x) (k ∙ y) q r

fit_laid : (inst : ProblemInstance) (b : StockInstance) (p : PieceIn) → T (any (λ c. is_panel p c && is_fit p b c) inst.cuts) → LaidPiece inst b p
unfolding is_panel is_fit placed_as
fit_laid inst b p t =
    let c = found (λ c. is_panel p c && is_fit p b c) inst.cuts t in
    let own = and_split (is_panel p c.one) (is_fit p b c.one) c.passed in
    let fits = fit_cut_in_rects c.one b.pattern (stock_rect b) RotationPreference.PreferUpright in
    let f = found (lies_as p) fits own.1 in
    let how : Fits c.one b.pattern (stock_rect b) f.one = in_all (Fits c.one b.pattern (stock_rect b)) fits (fits_all c.one b.pattern (stock_rect b) RotationPreference.PreferUpright) f.among in
    record {
      placed = placed_as p c.one f.one;
      panel = c.among;
      key = sym (same_key_eq p.key (cut_key c.one) own.0);
      legal = record { lies = lies_so p c.one f.one f.passed how.lies; grain = how.grain };
      rect = refl;
    }

-- the board of a sheet
record Board (inst : ProblemInstance) (s : SheetIn) : Type 0 where
  board : StockInstance
  among : Memᴰ board inst.stock
  key : s.key ≡ stock_key board
  width : s.width ≡ board.width
  length : s.length ≡ board.length

board_of_lem : (inst : ProblemInstance) (s : SheetIn) → T (on_rack inst.stock s) → Board inst s
unfolding on_rack uses_board of_its_size
board_of_lem inst s t =
    let f = found (λ b. uses_board s b && of_its_size s b) inst.stock t in
    let own = and_split (uses_board s f.one) (of_its_size s f.one) f.passed in
    let size = and_split (eqb s.width f.one.width) (eqb s.length f.one.length) own.1 in
    record { board = f.one; among = f.among; key = same_key_eq s.key (stock_key f.one) own.0; width = eqb→eq _ _ size.0; length = eqb→eq _ _ size.1 }

-- a piece that fits some board of the sheet's key fits the sheet's
piece_laid : (inst : ProblemInstance) → Pairs DifferBoards inst.stock → (s : SheetIn) (b : Board inst s) (p : PieceIn) → T (has_fit inst s p) → LaidPiece inst b.board p
unfolding has_fit uses_board
piece_laid inst d s b p t =
    let f = found (λ b. uses_board s b && any (λ c. is_panel p c && is_fit p b c) inst.cuts) inst.stock t in
    let own = and_split (uses_board s f.one) (any (λ c. is_panel p c && is_fit p f.one c) inst.cuts) f.passed in
    let same : f.one ≡ b.board =
    same_board inst.stock f.one b.board d f.among b.among
    (subst (λ (k : InstanceKey). T (same_key (stock_key f.one) k)) (sym (same_key_eq s.key (stock_key f.one) own.0) ∙ b.key) (same_key_refl (stock_key f.one)))
    in
    subst (λ (c : StockInstance). LaidPiece inst c p) same (fit_laid inst f.one p own.1)

-- ---- the pieces of a sheet

module _ (inst : ProblemInstance) (b : StockInstance) where
  laid : (ps : List PieceIn) → All (LaidPiece inst b) ps → List PlacedPiece
  laid [] h = []
  laid (p ∷ ps) h = h.0.placed ∷ laid ps h.1

  laid_panels : (ps : List PieceIn) (h : All (LaidPiece inst b) ps) → All (λ q. Memᴰ q.by.cut inst.cuts) (laid ps h)
  unfolding laid
  laid_panels [] h = tt
  laid_panels (p ∷ ps) h = (h.0.panel, laid_panels ps h.1)

  laid_legal : (ps : List PieceIn) (h : All (LaidPiece inst b) ps) → All (Legal b.pattern) (laid ps h)
  unfolding laid
  laid_legal [] h = tt
  laid_legal (p ∷ ps) h = (h.0.legal, laid_legal ps h.1)

  laid_keys : (ps : List PieceIn) (h : All (LaidPiece inst b) ps) → map cut_key (map (λ (q : PlacedPiece). q.by.cut) (laid ps h)) ≡ map (λ (p : PieceIn). p.key) ps
  unfolding laid
  laid_keys [] h = refl
  laid_keys (p ∷ ps) h = λ i. h.0.key i ∷ laid_keys ps h.1 i

  laid_rects : (ps : List PieceIn) (h : All (LaidPiece inst b) ps) → piece_rects (laid ps h) ≡ map (λ (p : PieceIn). p.rect) ps
  unfolding laid
  laid_rects [] h = refl
  laid_rects (p ∷ ps) h = λ i. h.0.rect i ∷ laid_rects ps h.1 i

-- ---- a sheet

record LaidSheet (inst : ProblemInstance) (s : SheetIn) : Type 0 where
  board : Board inst s
  pieces : List PlacedPiece
  panels : All (λ q. Memᴰ q.by.cut inst.cuts) pieces
  keys : map cut_key (map (λ (q : PlacedPiece). q.by.cut) pieces) ≡ map (λ (p : PieceIn). p.key) s.pieces
  legal : All (Legal board.board.pattern) pieces
  inside : All (Within (stock_rect board.board)) (piece_rects pieces)
  apart : Pairs (Apart inst.kerf_width) (piece_rects pieces)

within_of : (inst : ProblemInstance) (s : SheetIn) (b : Board inst s) (r : Rect) → T (inside_board s r) → Within (stock_rect b.board) r
unfolding inside_board
within_of inst s b r t =
    let h = and_split (leb (r.x + r.width) s.width) (leb (r.y + r.length) s.length) t in
    let w : r.x + r.width ≤ s.width = leb→le _ _ h.0 in
    let l : r.y + r.length ≤ s.length = leb→le _ _ h.1 in
    record { left = omega arith; top = omega arith; right = omega (arith, w, b.width); bottom = omega (arith, l, b.length) }

sheet_laid : (inst : ProblemInstance) → Pairs DifferBoards inst.stock → (s : SheetIn) → T (on_rack inst.stock s) → T (all (has_fit inst s) s.pieces) → T (all (inside_board s) (piece_rects_in s))
    → T (pairwise (kerf_apart inst.kerf_width) (piece_rects_in s)) → LaidSheet inst s
sheet_laid inst d s rack fits inside apart =
    let b = board_of_lem inst s rack in
    let ps = all_map (λ p. T (has_fit inst s p)) (LaidPiece inst b.board) (λ p t. piece_laid inst d s b p t) s.pieces (all_of (has_fit inst s) s.pieces fits) in
    record {
      board = b;
      pieces = laid inst b.board s.pieces ps;
      panels = laid_panels inst b.board s.pieces ps;
      keys = laid_keys inst b.board s.pieces ps;
      legal = laid_legal inst b.board s.pieces ps;
      inside = rw (laid_rects inst b.board s.pieces ps) (all_map _ _ (λ r t. within_of inst s b r t) (piece_rects_in s) (all_of (inside_board s) (piece_rects_in s) inside));
      apart = rw (laid_rects inst b.board s.pieces ps) (pairs_each _ _ (apart_of inst.kerf_width) (piece_rects_in s) (pairs_of (kerf_apart inst.kerf_width) (piece_rects_in s) apart));
    }

-- ---- all sheets

abbrev cut_of : PlacedPiece → CutInstance
cut_of q = q.by.cut

module _ (inst : ProblemInstance) where
  laid_all : (ss : List SheetIn) → All (LaidSheet inst) ss → List Laid
  laid_all [] h = []
  laid_all (s ∷ ss) h = (h.0.board.board, h.0.pieces) ∷ laid_all ss h.1

  abbrev pieces_of : List Laid → List PlacedPiece
  pieces_of sheets = concat_map (λ s. s.1) sheets

  -- what holds of each sheet laid
  all_laid : (P : Laid → Type 0) → ((s : SheetIn) (h : LaidSheet inst s) → P (h.board.board, h.pieces)) → (ss : List SheetIn) (h : All (LaidSheet inst) ss) → All P (laid_all ss h)
  unfolding laid_all
  all_laid P f [] h = tt
  all_laid P f (s ∷ ss) h = (f s h.0, all_laid P f ss h.1)

  all_keys : (ss : List SheetIn) (h : All (LaidSheet inst) ss) → map cut_key (map cut_of (pieces_of (laid_all ss h))) ≡ keys_in ss
  unfolding laid_all keys_in pieces_in concat_map
  all_keys [] h = refl
  all_keys (s ∷ ss) h =
      let ps = h.0.pieces in
      let later = pieces_of (laid_all ss h.1) in
      ap (map cut_key) (map_append cut_of ps later)
      ∙ map_append cut_key (map cut_of ps) (map cut_of later)
      ∙ (λ i. h.0.keys i ++ all_keys ss h.1 i)
      ∙ sym (map_append (λ (p : PieceIn). p.key) s.pieces (concat_map (λ (s : SheetIn). s.pieces) ss))

  boards_differ : (ss : List SheetIn) (h : All (LaidSheet inst) ss) → T (not (has_duplicate_keys (map (λ s. s.key) ss))) → Pairs DifferBoards (map (λ s. s.0) (laid_all ss h))
  unfolding laid_all has_duplicate_keys contains_key
  boards_differ [] h t = tt
  boards_differ (s ∷ ss) h t =
      let n = neither (any (same_key s.key) (map (λ (r : SheetIn). r.key) ss)) (has_duplicate_keys (map (λ (r : SheetIn). r.key) ss)) t in
      (others ss h.1 n.0, boards_differ ss h.1 n.1)
    where
      others : (rs : List SheetIn) (k : All (LaidSheet inst) rs) → T (not (any (same_key s.key) (map (λ (r : SheetIn). r.key) rs))) → All (DifferBoards h.0.board.board) (map (λ s. s.0) (laid_all rs k))
      others [] k u = tt
      others (r ∷ rs) k u =
          let m = neither (same_key s.key r.key) (any (same_key s.key) (map (λ (r : SheetIn). r.key) rs)) (unfold any in u) in
          (subst₂ (λ (a b : InstanceKey). T (not (same_key a b))) h.0.board.key k.0.board.key m.0, others rs k.1 m.1)

  panels_laid : Distinct inst.cuts → (ss : List SheetIn) (h : All (LaidSheet inst) ss) → T (all (lies_once ss) inst.cuts) → Perm (map cut_of (pieces_of (laid_all ss h))) inst.cuts
  unfolding lies_once
  panels_laid d ss h once =
      let sheets = laid_all ss h in
      let Known : PlacedPiece → Type 0 = λ q. Memᴰ (cut_of q) inst.cuts in
      let known : All Known (pieces_of sheets) = concat_map_all (λ s. All Known s.1) Known _ (λ s k. k) sheets (all_laid (λ s. All Known s.1) (λ s l. l.panels) ss h) in
      once_perm inst.cuts (map cut_of (pieces_of sheets)) d (map_all Known _ cut_of (λ q m. m) (pieces_of sheets) known)
      (all_map (λ c. T (lies_once ss c)) _ (λ c t. ap (λ (ks : List InstanceKey). length (retain (same_key (cut_key c)) ks)) (all_keys ss h) ∙ eqb→eq _ 1 t) inst.cuts (all_of (lies_once ss) inst.cuts once))

  all_obey : Distinct inst.cuts → (ss : List SheetIn) (h : All (LaidSheet inst) ss) → T (all (lies_once ss) inst.cuts) → T (not (has_duplicate_keys (map (λ s. s.key) ss)))
      → Obeys inst (laid_all ss h)
  all_obey d ss h once own =
      let sheets = laid_all ss h in
      let r = rest_of DifferBoards (λ x t. T_not (same_key (stock_key x) (stock_key x)) t (same_key_refl (stock_key x))) (map (λ s. s.0) sheets) inst.stock (boards_differ ss h own)
      (map_all (λ s. Memᴰ s.0 inst.stock) _ (λ (s : Laid). s.0) (λ s m. m) sheets (all_laid (λ s. Memᴰ s.0 inst.stock) (λ s l. l.board.among) ss h))
      in
      record {
        rest = r.rest;
        boards = r.perm;
        panels = panels_laid d ss h once;
        legal = all_laid _ (λ s l. l.legal) ss h;
        inside = all_laid _ (λ s l. l.inside) ss h;
        apart = all_laid _ (λ s l. l.apart) ss h;
      }

  each_laid : Pairs DifferBoards inst.stock → (ss : List SheetIn) → All (λ s. T (on_rack inst.stock s)) ss → All (λ s. T (all (has_fit inst s) s.pieces)) ss
      → All (λ s. T (all (inside_board s) (piece_rects_in s))) ss → All (λ s. T (pairwise (kerf_apart inst.kerf_width) (piece_rects_in s))) ss → All (LaidSheet inst) ss
  each_laid d [] b f i a = tt
  each_laid d (s ∷ ss) b f i a = (sheet_laid inst d s b.0 f.0 i.0 a.0, each_laid d ss b.1 f.1 i.1 a.1)

  -- sheets that obey the rules could be laid by the source
  pub obey_laid : Admitted inst → (ss : List SheetIn) → PiecesObey inst ss → (sheets : List Laid) × Obeys inst sheets
  obey_laid a ss o =
      let sheets : All (LaidSheet inst) ss = each_laid a.own_boards ss (all_of _ ss o.boards) (all_of _ ss o.fits) (all_of _ ss o.inside) (all_of _ ss o.apart) in
      (laid_all ss sheets, all_obey a.own_panels ss sheets o.panels_once o.boards_once)

-- ---- the refusals

pub no_words : (file words : List ℕ) (k : ℕ) → file_refusal file ≡ none → prefilter (asked_by file) ≡ some k → PieceRules file words → ⊥
no_words file words k f e o =
    let l = obey_laid (asked_by file) (admitted file f) (sheets_in words) o in
    no_layout (asked_by file) k e l.0 l.1
