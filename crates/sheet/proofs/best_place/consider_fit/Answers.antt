-- `best_place::consider_fit` meets its contract: the best so far, a lower score, or the first fit.
use Rattle.sheet.proofs.best_place.Search.{over_first, over_lower, over_higher}
use Rattle.sheet.proofs.best_place.consider_fit.Goals as goal

pub returns-in-Some : goal.returns-in-Some
returns-in-Some c =
    let k = rw c.in-Some.is at c.requires in
    rw c.in-Some.is (over_higher c.args.heuristic _ _ _ c.free_rect_choice_score-score.result c.free_rect_choice_score-score.ensures c.in-Some.least k (cc))

pub returns-in_default : goal.returns-in_default
returns-in_default c =
    let k = rw c.in-Some.is at c.requires in
    rw c.in-Some.is (over_lower c.args.heuristic _ _ _ c.free_rect_choice_score-score.result c.free_rect_choice_score-score.ensures c.in-Some.least k (cc))

pub returns-in_default-2 : goal.returns-in_default-2
returns-in_default-2 c = rw c.in_default.is (over_first c.args.heuristic _ _ _ _ c.free_rect_choice_score-score.ensures)
