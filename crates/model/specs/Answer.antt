-- From a project file to a plan or a refusal: `optimize_with_config`.
use Rattle.std.specs.Prelude.{ℕ, not, List, [], ◌∷◌, map, ltb, if◌then◌else◌}
use Rattle.std.proofs.Math.Option.{Option, none, some, get_or}
use Rattle.lists.specs.Base.{sum, any, all, is_empty}
use Rattle.model.specs.Types.{LayoutKind, BaselineGuillotineHeuristic, StockInstance, stock_area, cut_area, layout_of, effort_of}
use Rattle.model.specs.Fit.{cut_fits_stock}
use Rattle.model.specs.Sheet.{Insertion, making_of}
use Rattle.model.specs.Fitness.{fitness, positive_zero, one}
use Rattle.model.specs.Candidate.{Candidate}
use Rattle.model.specs.Project.{Project, project_of}
use Rattle.model.specs.Refusal.{first_that_applies, file_refusal}
use Rattle.model.specs.Expand.{ProblemInstance, expand_project}
use Rattle.model.specs.Search.{SearchNumbers, search_numbers, heuristic_variants, winner}
use Rattle.model.specs.Plan.{plan_words}

pub data Answer : Type 0 where
  plan : List ℕ → Answer
  refused : ℕ → Answer

-- basic_feasibility_prefilter
unfoldable pub prefilter : ProblemInstance → Option ℕ
prefilter inst =
    first_that_applies
    ((15, not (all (λ c. any (cut_fits_stock c) inst.stock) inst.cuts))
    ∷ (16, ltb (sum (map stock_area inst.stock)) (sum (map cut_area inst.cuts)))
    ∷ [])

-- into_solution, as words; a candidate with a sheet has a fitness
unfoldable pub solution : LayoutKind → Candidate → Answer
solution layout c = plan (plan_words layout (get_or (fitness c.bins) positive_zero) c.bins)

-- optimize_population_pipeline
unfoldable pub searched : List BaselineGuillotineHeuristic → LayoutKind → ProblemInstance → SearchNumbers → Answer
searched rows layout inst n =
    elim (prefilter inst) [
      | some k ↦ refused k
      | none ↦ elim (winner rows inst n) [ none ↦ refused 17 | some c ↦ solution layout c ]
    ]

-- optimize_with_config of a project that no check refuses, once expanded. The nested layout has no cuts here: 14 refuses it with cuts
unfoldable pub optimized : List BaselineGuillotineHeuristic → Project → ProblemInstance → Answer
optimized rows p inst =
    if is_empty inst.cuts then plan (plan_words (layout_of p.layout) one [])
    else searched rows LayoutKind.Guillotine inst (search_numbers (effort_of p.effort))

-- what a file is answered by a search with given rows
unfoldable pub answer_with : List BaselineGuillotineHeuristic → List ℕ → Answer
answer_with rows bytes =
    elim (file_refusal bytes) [ some k ↦ refused k | none ↦ optimized rows (project_of bytes) (expand_project (project_of bytes)) ]

-- and with the source's rows
unfoldable pub answer : List ℕ → Answer
answer bytes = answer_with heuristic_variants bytes

-- the making of each of the winner's sheets, found from the file: its board and its insertions in their order
unfoldable pub makings : List BaselineGuillotineHeuristic → List ℕ → List (StockInstance × List Insertion)
makings rows bytes =
    elim (winner rows (expand_project (project_of bytes)) (search_numbers (effort_of (project_of bytes).effort))) [
      | none ↦ []
      | some c ↦ map (λ b. (b.stock, making_of b)) c.bins
    ]

unfoldable pub made_by : List ℕ → List (StockInstance × List Insertion)
made_by bytes = makings heuristic_variants bytes
