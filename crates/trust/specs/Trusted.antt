-- What a plan can be trusted for, over its words: what a marker counts.
use Rattle.std.specs.Prelude.{ℕ, ◌+◌, ◌*◌, ◌≡◌, List, [], ◌∷◌, ◌++◌, map, T, if◌then◌else◌}
use Rattle.lists.specs.Base.{sum, all, is_empty}
use Rattle.model.specs.declared.BaselineGuillotineHeuristic.{BaselineGuillotineHeuristic}
use Rattle.model.specs.declared.StockInstance.{StockInstance}
use Rattle.model.specs.Types.{area, stock_key, cut_key}
use Rattle.model.specs.Sheet.{Insertion, new_sheet}
use Rattle.model.specs.Account.{account_from}
use Rattle.model.specs.Search.{heuristic_variants}
use Rattle.model.specs.Answer.{makings}
use Rattle.trust.specs.Words.{SheetIn, sheets_in}
use Rattle.trust.specs.InLayout.{InLayout}
use Rattle.trust.specs.PieceRules.{asked_by, inside_board, kerf_apart, pairwise, piece_rects_in, PieceRules}
use Rattle.trust.specs.GuideRules.{GuideRules}

-- ---- a sheet and its making

-- what the making's splits took, and what its merges gave back
abbrev pub loss_of : ℕ → StockInstance × List Insertion → ℕ
loss_of kerf making = (account_from kerf (new_sheet making.0) making.1).0

abbrev pub gain_of : ℕ → StockInstance × List Insertion → ℕ
gain_of kerf making = (account_from kerf (new_sheet making.0) making.1).1

-- a sheet and its making in the winner: the same board, the same panels in their order
pub record Made (kerf : ℕ) (making : StockInstance × List Insertion) (s : SheetIn) : Type 0 where
  pub board : stock_key making.0 ≡ s.key
  pub panels : map (λ i. cut_key i.cut) making.1 ≡ map (λ p. p.key) s.pieces
  -- board area and what merges gave back are pieces, waste and what splits took
  pub account : s.width * s.length + gain_of kerf making ≡ sum (map area (piece_rects_in s)) + sum (map area s.waste) + loss_of kerf making
  pub guide : GuideRules kerf (new_sheet making.0) making.1 s

-- one to one, in their order
abbrev pub Each : {A B : Type 0} → (A → B → Type 0) → List A → List B → Type 0
Each R [] [] = Unit
Each R [] (y ∷ ys) = ⊥
Each R (x ∷ xs) [] = ⊥
Each R (x ∷ xs) (y ∷ ys) = R x y × Each R xs ys

-- the makings of a plan's sheets: without cuts nothing is searched for
unfoldable pub plan_makings : List BaselineGuillotineHeuristic → List ℕ → List (StockInstance × List Insertion)
plan_makings rows file = if is_empty (asked_by file).cuts then [] else makings rows file

-- ---- the plan

-- of a search with given rows. A plan of no sheets is trusted only where no panel is asked for
pub record TrustedBy (rows : List BaselineGuillotineHeuristic) (file words : List ℕ) : Type 0 where
  pub layout : InLayout words
  pub pieces : PieceRules file words
  pub waste_inside : T (all (λ s. all (inside_board s) s.waste) (sheets_in words))
  -- piece and piece, piece and waste, waste and waste
  pub apart : T (all (λ s. pairwise (kerf_apart (asked_by file).kerf_width) (piece_rects_in s ++ s.waste)) (sheets_in words))
  pub made : Each (Made (asked_by file).kerf_width) (plan_makings rows file) (sheets_in words)

-- and with the source's rows
abbrev pub Trusted : List ℕ → List ℕ → Type 0
Trusted file words = TrustedBy heuristic_variants file words
