-- A sheet while its making is replayed, and what each step leaves.
use Rattle.std.specs.Prelude.{ℕ, ◌+◌, ◌*◌, ◌/◌, ◌^◌, ◌≤◌, ◌<◌, ◌≡◌, Bool, List, map, sum, length, take, drop, Option, Some, None}
use Rattle.std.proofs.Math.Option.{some}
use Rattle.lists.specs.Base.{concat_map}
use Rattle.lists.specs.Parts.{patch}
use Rattle.lists.specs.Elements.{All}
use Rattle.model.specs.declared.Rect.{Rect}
use Rattle.model.specs.declared.StockInstance.{StockInstance}
use Rattle.model.specs.declared.CutInstance.{CutInstance}
use Rattle.model.specs.declared.FitResult.{FitResult}
use Rattle.model.specs.declared.BaselineGuillotineHeuristic.{BaselineGuillotineHeuristic}
use Rattle.model.specs.Types.{area, stock_area}
use Rattle.model.specs.Refusal.{most_side}
use Rattle.model.specs.Split.{split_direction}
use Rattle.model.specs.Sheet.{GuillotineSheet, rebuild, placed_area}
use Rattle.model.specs.Expand.{ProblemInstance}
use Rattle.model.specs.Plan.{piece_words, rect_words, sheet_words}
use Rattle.trust.specs.Limits.{most_area, most_nodes}
use Rattle.trust.specs.Admitted.{BoardRange}
use Rattle.sheet.specs.Places.{Shows}
use Rattle.sheet.specs.declared.Inserted.{Inserted}
use Rattle.sheet.specs.Insertions.{Ready}
use Rattle.guide.specs.declared.subtree.Node.{Node}
use Rattle.guide.specs.Nodes.{words_of, guide_nodes, InCorner}
use Rattle.guide.specs.Guides.{next_nodes}
use Rattle.guide.specs.Saws.{node_saw}
use Rattle.candidate.specs.Areas.{areas_of}
use Rattle.candidate.specs.Entries.{cut_of}
use Rattle.candidate.specs.Stands.{making_in, bin_in}
use Rattle.project.specs.Problem.{board_in}
use Rattle.plan.specs.declared.sheet_plan.Progress.{Progress}
use Rattle.plan.specs.declared.sheet_plan.Body.{Body}
use Rattle.plan.specs.Heads.{piece, head_words}

-- the words of the pieces that a sheet has behind those of an earlier state
unfoldable pub new_pieces : GuillotineSheet → GuillotineSheet → List ℕ
new_pieces s t = concat_map piece_words (drop (length s.placed_pieces) t.placed_pieces)

-- ---- the sheet so far

-- its free rectangles, its guide's nodes, and the numbers beside them
pub record Replayed (kerf : ℕ) (s : GuillotineSheet) (rects : List Rect) (guide : List Node) (p : Progress) : Type 0 where
  pub free : Shows rects s.stock.pattern s
  pub ready : Ready kerf rects
  pub nodes : guide ≡ guide_nodes s.slicing_tree
  pub pieces : p.pieces ≡ length s.placed_pieces
  pub placed : p.placed ≡ placed_area s

-- a board of an admitted instance, and its kerf
pub record Boardable (kerf : ℕ) (stock : StockInstance) : Type 0 where
  pub thin : kerf ≤ most_side
  pub board : BoardRange stock

-- insertions of which those on a board make its sheet
pub record Replayable (inst : ProblemInstance) (words : List ℕ) (board : ℕ) : Type 0 where
  pub few : length words ≤ 64
  pub known : board < length inst.stock
  pub cuts : All (λ w. cut_of w < length inst.cuts) words
  pub rebuilt : rebuild inst.kerf_width (board_in inst board) (making_in inst words board) ≡ some (bin_in inst words board)

-- ---- one piece

-- room for a piece's words, and for its subtree in the guide
pub record Takeable (pieces : List ℕ) (guide : List Node) (free_rect : Rect) (fit : FitResult) (p : Progress) : Type 0 where
  pub room : 9 * p.pieces + 9 ≤ length pieces
  pub space : length guide + 4 ≤ most_nodes
  pub corner : InCorner free_rect fit.rect
  pub area : p.placed + area fit.rect < 2 ^ 64

pub record Takes (kerf : ℕ) (cut : CutInstance) (h : BaselineGuillotineHeuristic) (free_rect : Rect) (fit : FitResult) (merged : Bool) (p : Progress)
    (before after : List ℕ) (guide guide' : List Node) (q : Progress) : Type 0 where
  pub words : after ≡ patch before (9 * p.pieces) (piece_words (piece cut h fit))
  pub nodes : guide' ≡ next_nodes merged (split_direction free_rect fit.rect h.split) kerf free_rect fit.rect cut guide
  pub pieces : q.pieces ≡ p.pieces + 1
  pub placed : q.placed ≡ p.placed + area fit.rect

-- the same of an insertion, which found a place
abbrev pub TakeableIn : List ℕ → List Node → Option Inserted → Progress → Type 0
TakeableIn words guide None p = ⊥
TakeableIn words guide (Some i) p = Takeable words guide i.free_rect i.fit p

abbrev pub TakesIn : ℕ → CutInstance → BaselineGuillotineHeuristic → Option Inserted → Progress → List ℕ → List ℕ → List Node → List Node → Progress → Type 0
TakesIn kerf cut h None p before after guide guide' q = ⊥
TakesIn kerf cut h (Some i) p before after guide guide' q = Takes kerf cut h i.free_rect i.fit i.merged p before after guide guide' q

-- ---- insertions

-- one insertion more: the sheet that it makes, its new pieces written behind those before
pub record ReplaysWord (inst : ProblemInstance) (words : List ℕ) (board i : ℕ) (before after : List ℕ) (rects : List Rect) (guide : List Node) (p : Progress) : Type 0 where
  pub state : Replayed inst.kerf_width (bin_in inst (take (i + 1) words) board) rects guide p
  pub pieces : after ≡ patch before (9 * length (bin_in inst (take i words) board).placed_pieces) (new_pieces (bin_in inst (take i words) board) (bin_in inst (take (i + 1) words) board))

-- all of them
pub record ReplaysSheet (kerf : ℕ) (s : GuillotineSheet) (before after : List ℕ) (rects : List Rect) (guide : List Node) (p : Progress) : Type 0 where
  pub state : Replayed kerf s rects guide p
  pub pieces : after ≡ patch before 0 (concat_map piece_words s.placed_pieces)

-- ---- the whole part

pub record WritesSheet (s : GuillotineSheet) (before after : List ℕ) (b : Body) : Type 0 where
  pub words : after ≡ patch before 0 (sheet_words s)
  pub size : b.size ≡ length (sheet_words s)
  pub areas : b.areas ≡ areas_of s

-- room for what follows the pieces, counts and saw in range, and a share of the board
pub record Finishable (part : List ℕ) (rects : List Rect) (guide : List Node) (stock : StockInstance) (p : Progress) : Type 0 where
  pub fits : 10 + 9 * p.pieces + 4 * length rects + 8 * length guide ≤ length part
  pub pieces : p.pieces ≤ 64
  pub rectangles : length rects ≤ 65
  pub nodes : length guide ≤ most_nodes
  pub sawable : sum (map node_saw guide) < 2 ^ 32
  pub positive : 0 < stock_area stock
  pub most : stock_area stock ≤ most_area
  pub share : p.placed ≤ stock_area stock

-- the waste's words behind the pieces', the nodes' behind those, and the ten words before the pieces
abbrev pub finished_part : List ℕ → List Rect → List Node → StockInstance → Progress → List ℕ
finished_part part rects guide stock p =
    patch (patch (patch part (10 + 9 * p.pieces) (concat_map rect_words rects)) (10 + 9 * p.pieces + 4 * length rects) (concat_map words_of guide))
    0 (head_words stock (p.placed * 1000 / stock_area stock) (sum (map node_saw guide)) p.pieces (length rects) (length guide))

pub record Finishes (part after : List ℕ) (rects : List Rect) (guide : List Node) (stock : StockInstance) (p : Progress) (b : Body) : Type 0 where
  pub words : after ≡ finished_part part rects guide stock p
  pub size : b.size ≡ 10 + 9 * p.pieces + 4 * length rects + 8 * length guide
  pub areas : b.areas ≡ record { placed = p.placed; board = stock_area stock }
