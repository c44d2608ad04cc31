-- A sheet's rectangles, pieces and waste: in the board, a kerf apart; its pieces: own size and legal grain; and the sheet its making builds.
use Rattle.std.specs.Prelude.{ℕ, ◌+◌, ◌≤◌, ◌<◌, ◌≡◌, true, false, List, ◌++◌, map, T}
use Rattle.std.proofs.Math.Option.{some}
use Rattle.lists.specs.Elements.{All, Pairs}
use Rattle.model.specs.declared.Rect.{Rect}
use Rattle.model.specs.declared.PatternDirection.{PatternDirection}
use Rattle.model.specs.declared.CutInstance.{CutInstance}
use Rattle.model.specs.declared.FitResult.{FitResult}
use Rattle.model.specs.Types.{stock_rect}
use Rattle.model.specs.Fit.{pattern_matches, rotate_pattern}
use Rattle.model.specs.Sheet.{GuillotineSheet, PlacedPiece, rebuild, making_of}

-- ---- rectangles

pub record Positive (r : Rect) : Type 0 where
  pub wide : 0 < r.width
  pub long : 0 < r.length

-- a lies in b
pub record Within (b a : Rect) : Type 0 where
  pub left : b.x ≤ a.x
  pub top : b.y ≤ a.y
  pub right : a.x + a.width ≤ b.x + b.width
  pub bottom : a.y + a.length ≤ b.y + b.length

-- a kerf apart: along x or along y, one's start plus its side plus the kerf is at most the other's start
pub data Apart (kerf : ℕ) (a b : Rect) : Type 0 where
  left_of : a.x + a.width + kerf ≤ b.x → Apart kerf a b
  right_of : b.x + b.width + kerf ≤ a.x → Apart kerf a b
  above : a.y + a.length + kerf ≤ b.y → Apart kerf a b
  beneath : b.y + b.length + kerf ≤ a.y → Apart kerf a b

pub record Layout (kerf : ℕ) (board : Rect) (rs : List Rect) : Type 0 where
  pub positive : All Positive rs
  pub within : All (Within board) rs
  pub apart : Pairs (Apart kerf) rs

-- ---- a sheet

abbrev pub piece_rects : List PlacedPiece → List Rect
piece_rects ps = map (λ p. p.fit.rect) ps

-- pieces and waste
abbrev pub sheet_rects : GuillotineSheet → List Rect
sheet_rects s = piece_rects s.placed_pieces ++ s.free_rects

abbrev pub Sound : ℕ → GuillotineSheet → Type 0
Sound kerf s = Layout kerf (stock_rect s.stock) (sheet_rects s)

-- own size: the record's sides, exchanged if turned, with the pattern that goes with it
pub data Lies (cut : CutInstance) (f : FitResult) : Type 0 where
  upright : f.rect.width ≡ cut.width → f.rect.length ≡ cut.length → f.pattern ≡ cut.pattern → f.rotated ≡ false → Lies cut f
  turned : T cut.can_rotate → f.rect.width ≡ cut.length → f.rect.length ≡ cut.width → f.pattern ≡ rotate_pattern cut.pattern → f.rotated ≡ true → Lies cut f

-- own size and legal grain on a board of this pattern
pub record Legal (board : PatternDirection) (p : PlacedPiece) : Type 0 where
  pub lies : Lies p.by.cut p.fit
  pub grain : T (pattern_matches p.fit.pattern board)

abbrev pub Rebuilt : ℕ → GuillotineSheet → Type 0
Rebuilt kerf s = rebuild kerf s.stock (making_of s) ≡ some s
