-- The areas of a candidate's sheets, and the sheet that is first best by them.
use Rattle.std.specs.Prelude.{ℕ, ◌<◌, ◌≡◌, Bool, List, map, length, get_or, Float}
use Rattle.std.proofs.Math.Option.{Option, some}
use Rattle.lists.specs.Base.{sum, is_less, is_greater, range, enumerate, first_best}
use Rattle.model.specs.Types.{cut_area}
use Rattle.model.specs.Sheet.{GuillotineSheet, new_sheet}
use Rattle.model.specs.Fitness.{sheet_fitness, compare_float}
use Rattle.model.specs.Candidate.{CandidateScore, worst_bin, score}
use Rattle.model.specs.Expand.{ProblemInstance}
use Rattle.candidate.specs.declared.fitness.SheetAreas.{SheetAreas}
use Rattle.candidate.specs.Areas.{areas_of, no_sheet, share_of}
use Rattle.candidate.specs.Entries.{board_of, cut_of, on_board}
use Rattle.candidate.specs.declared.Candidate.{Candidate as Words}
use Rattle.candidate.specs.Stands.{candidate_in}
use Rattle.project.specs.Problem.{no_stock, cut_in}

-- ---- areas

-- the area of an insertion's cut
abbrev pub word_area : ProblemInstance → ℕ → ℕ
word_area inst word = cut_area (cut_in inst (cut_of word))

-- the area that insertions place on a board
unfoldable pub placed_on : ProblemInstance → List ℕ → ℕ → ℕ
placed_on inst words board = sum (map (word_area inst) (on_board board words))

-- an insertion of a cut of the instance, on one of 64 boards
abbrev pub Known : ProblemInstance → ℕ → Type 0
Known inst word = (board_of word < 64) × (cut_of word < length inst.cuts)

-- the areas of sheets, in their order
abbrev pub AreasOf : List SheetAreas → List GuillotineSheet → Type 0
AreasOf areas bins = areas ≡ map areas_of bins

-- ---- the first best sheet

-- the fitness of sheet k
abbrev pub share_at : List SheetAreas → ℕ → Float
share_at sheets k = share_of (get_or sheets k no_sheet)

-- of two fitnesses the first is the less, or the greater
abbrev pub less_fit : Float → Float → Bool
less_fit x y = is_less (compare_float x y)

abbrev pub fitter : Float → Float → Bool
fitter x y = is_greater (compare_float x y)

-- the sheet at that index is the first best
abbrev pub IsFirstBest : (Float → Float → Bool) → List SheetAreas → ℕ → Type 0
IsFirstBest better sheets k = (k < length sheets) × (first_best (λ i j. better (share_at sheets i) (share_at sheets j)) (range (length sheets)) ≡ some k)

abbrev pub no_bin : GuillotineSheet
no_bin = new_sheet no_stock

-- `worst_bin` is the sheet at that index
abbrev pub IsWorst : List GuillotineSheet → ℕ → Type 0
IsWorst bins k = (k < length bins) × (worst_bin bins ≡ some (k, get_or bins k no_bin))

-- the first fittest, with its index
unfoldable pub best_donor : List GuillotineSheet → Option (ℕ × GuillotineSheet)
best_donor bins = first_best (λ a b. is_greater (compare_float (sheet_fitness a.1) (sheet_fitness b.1))) (enumerate bins)

abbrev pub IsBestDonor : List GuillotineSheet → ℕ → Type 0
IsBestDonor bins k = (k < length bins) × (best_donor bins ≡ some (k, get_or bins k no_bin))

-- ---- the score

-- the score of a candidate of words
abbrev pub score_in : ProblemInstance → Words → Option CandidateScore
score_in inst c = score inst.cuts (candidate_in inst c)
