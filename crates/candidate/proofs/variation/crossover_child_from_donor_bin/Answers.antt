-- `variation::crossover_child_from_donor_bin` meets its contract.
use native.Mathlib.Omega.{arith}
use mathlib.Core.Path.{◌≡◌, sym, ◌∙◌}
use mathlib.Core.List.{[]}
use mathlib.Core.Option.{none}
use Rattle.lists.specs.Base.{first_best, enumerate_from}
use Rattle.model.specs.declared.BaselineGuillotineHeuristic.{BaselineGuillotineHeuristic}
use Rattle.model.specs.Expand.{ProblemInstance}
use Rattle.candidate.specs.declared.Candidate.{Candidate as Words}
use Rattle.candidate.specs.OnSheets.{best_donor}
use Rattle.candidate.specs.Children.{child_in}
use Rattle.candidate.specs.Stands.{candidate_in}
use Rattle.candidate.proofs.evaluation.BestIndex.{donor_index}
use Rattle.candidate.proofs.variation.Crossed.{no_donor}
use Rattle.candidate.proofs.variation.Sheets.{areas_count, no_bins}
use Rattle.candidate.proofs.variation.crossover_child_from_donor_bin.Goals as goal

-- no sheet, no donor
no_child : (inst : ProblemInstance) (h : BaselineGuillotineHeuristic) (left right : Words) → (candidate_in inst right).bins ≡ [] → child_in inst h left right ≡ none
unfolding child_in best_donor first_best enumerate_from
no_child inst h left right e = rw e

pub returns-then-right-eq0 : goal.returns-then-right-eq0
returns-then-right-eq0 c =
    let inst = c.args.inst.now in
    let bins = no_bins inst c.args.right.now c.if-right-eq0.true in
    record {
      words = sym (no_child inst c.args.h c.args.left.now c.args.right.now bins);
      is = no_donor inst c.args.h (candidate_in inst c.args.left.now) (candidate_in inst c.args.right.now) bins;
    }

pub best_donor_bin_index-index-requires : goal.best_donor_bin_index-index-requires
best_donor_bin_index-index-requires c = omega (arith, c.if-right-eq0.false, areas_count c.args.inst.now c.args.right.now c.requires.1 _ (c.as_slice.ensures.value ∙ c.sheet_areas-areas.ensures))

pub child_of_sheet-requires : goal.child_of_sheet-requires
child_of_sheet-requires c = (
  c.requires.0,
  c.requires.1,
  donor_index c.as_slice.result.now (candidate_in c.args.inst.now c.args.right.now).bins (c.as_slice.ensures.value ∙ c.sheet_areas-areas.ensures) c.best_donor_bin_index-index.result c.best_donor_bin_index-index.ensures,
)
