-- What a marker checks of pieces and boards: the rules that need no making, on any words. It does not matter who drew the plan.
use Rattle.std.specs.Prelude.{ℕ, ◌+◌, Bool, true, not, ◌&&◌, ◌||◌, List, [], ◌∷◌, map, T, leb, eqb, length}
use Rattle.lists.specs.Base.{any, all, retain}
use Rattle.model.specs.declared.Rect.{Rect}
use Rattle.model.specs.declared.RotationPreference.{RotationPreference}
use Rattle.model.specs.declared.StockInstance.{StockInstance}
use Rattle.model.specs.declared.CutInstance.{CutInstance}
use Rattle.model.specs.declared.InstanceKey.{InstanceKey}
use Rattle.model.specs.declared.FitResult.{FitResult}
use Rattle.model.specs.Types.{stock_rect, stock_key, cut_key, same_key, pattern_code, flag_code}
use Rattle.model.specs.Fit.{fit_cut_in_rects}
use Rattle.model.specs.Candidate.{has_duplicate_keys}
use Rattle.model.specs.Project.{project_of}
use Rattle.model.specs.Expand.{ProblemInstance, expand_project}
use Rattle.trust.specs.Words.{PieceIn, SheetIn, sheets_in, pieces_in}

-- the panels and boards of a file, and its kerf
abbrev pub asked_by : List ℕ → ProblemInstance
asked_by file = expand_project (project_of file)

-- ---- panels and boards

-- a panel that one piece, and only one, over all sheets is
unfoldable pub keys_in : List SheetIn → List InstanceKey
keys_in sheets = map (λ p. p.key) (pieces_in sheets)

unfoldable pub lies_once : List SheetIn → CutInstance → Bool
lies_once sheets c = eqb (length (retain (same_key (cut_key c)) (keys_in sheets))) 1

-- the board of a sheet, in its record's size
unfoldable pub uses_board : SheetIn → StockInstance → Bool
uses_board s b = same_key s.key (stock_key b)

unfoldable pub of_its_size : SheetIn → StockInstance → Bool
of_its_size s b = eqb s.width b.width && eqb s.length b.length

unfoldable pub on_rack : List StockInstance → SheetIn → Bool
on_rack stock s = any (λ b. uses_board s b && of_its_size s b) stock

-- ---- a piece

-- own size and legal grain: as one of the source's fits on the bare board
unfoldable pub lies_as : PieceIn → FitResult → Bool
lies_as p f =
    eqb p.rect.width f.rect.width && eqb p.rect.length f.rect.length && eqb p.pattern (pattern_code f.pattern)
    && eqb p.rotated (flag_code f.rotated)

unfoldable pub is_fit : PieceIn → StockInstance → CutInstance → Bool
is_fit p b c = any (lies_as p) (fit_cut_in_rects c b.pattern (stock_rect b) RotationPreference.PreferUpright)

unfoldable pub is_panel : PieceIn → CutInstance → Bool
is_panel p c = same_key p.key (cut_key c)

-- of its panel, on its sheet's board; a piece that is no panel has no fit
unfoldable pub has_fit : ProblemInstance → SheetIn → PieceIn → Bool
has_fit inst s p = any (λ b. uses_board s b && any (λ c. is_panel p c && is_fit p b c) inst.cuts) inst.stock

-- inside the board
unfoldable pub inside_board : SheetIn → Rect → Bool
inside_board s r = leb (r.x + r.width) s.width && leb (r.y + r.length) s.length

-- a kerf apart, along one of the two axes
unfoldable pub kerf_apart : ℕ → Rect → Rect → Bool
kerf_apart kerf a b =
    leb (a.x + a.width + kerf) b.x || leb (b.x + b.width + kerf) a.x
    || leb (a.y + a.length + kerf) b.y || leb (b.y + b.length + kerf) a.y

unfoldable pub pairwise : {A : Type 0} → (A → A → Bool) → List A → Bool
pairwise test [] = true
pairwise test (x ∷ xs) = all (test x) xs && pairwise test xs

abbrev pub piece_rects_in : SheetIn → List Rect
piece_rects_in s = map (λ p. p.rect) s.pieces

-- ---- the rules

pub record PiecesObey (inst : ProblemInstance) (sheets : List SheetIn) : Type 0 where
  pub panels_once : T (all (lies_once sheets) inst.cuts)
  pub boards : T (all (on_rack inst.stock) sheets)
  pub boards_once : T (not (has_duplicate_keys (map (λ s. s.key) sheets)))
  pub fits : T (all (λ s. all (has_fit inst s) s.pieces) sheets)
  pub inside : T (all (λ s. all (inside_board s) (piece_rects_in s)) sheets)
  pub apart : T (all (λ s. pairwise (kerf_apart inst.kerf_width) (piece_rects_in s)) sheets)

abbrev pub PieceRules : List ℕ → List ℕ → Type 0
PieceRules file words = PiecesObey (asked_by file) (sheets_in words)
