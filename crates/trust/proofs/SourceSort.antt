-- Each sort of the definition is the stable sort that the source calls: of the stock, of the cut order, of the survivors.
-- `sort_only` (lists) says that no other list is.
use mathlib.Core.List.{List, [], ◌∷◌}
use Rattle.lists.specs.Base.{concat_map, sort_by}
use Rattle.lists.specs.Elements.{All}
use Rattle.lists.proofs.Sorting.{IsSort, sort_is}
use Rattle.model.specs.declared.CutInstance.{CutInstance}
use Rattle.model.specs.Candidate.{Candidate}
use Rattle.model.specs.Project.{Project}
use Rattle.model.specs.Expand.{ProblemInstance, compare_stock, compare_cut, stock_instances, expand_project}
use Rattle.model.specs.Search.{best_first}
use Rattle.trust.specs.Admitted.{Ranged}
use Rattle.trust.specs.Proper.{CandidateProper}
use Rattle.trust.proofs.Comparisons.{Any, stock_order, cut_order_lem, candidate_order}

-- every element is compared
anything : {A : Type 0} (xs : List A) → All Any xs
anything [] = tt
anything (x ∷ xs) = (tt, anything xs)

pub stock_sorted : (p : Project) → IsSort compare_stock (concat_map stock_instances p.stock) (expand_project p).stock
unfolding expand_project
stock_sorted p = sort_is compare_stock Any stock_order (concat_map stock_instances p.stock) (anything (concat_map stock_instances p.stock))

pub cuts_sorted : (cuts : List CutInstance) → IsSort compare_cut cuts (sort_by compare_cut cuts)
cuts_sorted cuts = sort_is compare_cut Any cut_order_lem cuts (anything cuts)

-- survival sorts candidates whose scores are numbers
pub survivors_sorted : (inst : ProblemInstance) → Ranged inst → (valid : List Candidate) → All (CandidateProper inst) valid
    → IsSort (best_first inst) valid (sort_by (best_first inst) valid)
survivors_sorted inst r valid h = sort_is (best_first inst) (CandidateProper inst) (candidate_order inst r) valid h
