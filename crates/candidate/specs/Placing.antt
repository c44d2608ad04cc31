-- Cuts placed on a candidate: the words that come back, what they stand for, and the free rectangles beside them.
use Rattle.std.specs.Prelude.{ℕ, ◌≡◌, List, [], ◌∷◌, map}
use Rattle.model.specs.declared.BaselineGuillotineHeuristic.{BaselineGuillotineHeuristic}
use Rattle.model.specs.declared.Rect.{Rect}
use Rattle.model.specs.Candidate.{place_cut_first_fit, place_cuts, reinsert_unused_first_fit}
use Rattle.model.specs.Expand.{ProblemInstance}
use Rattle.candidate.specs.declared.Candidate.{Candidate as Words}
use Rattle.candidate.specs.Moves.{with_cut, with_cuts, reinserted}
use Rattle.candidate.specs.Stands.{Stands, candidate_in}
use Rattle.project.specs.Problem.{cut_in}
use Rattle.candidate.specs.Bins.{Shown}

-- a candidate whose next cut is this one, beside free rectangles that show its sheets
pub record Next (inst : ProblemInstance) (free : List (List Rect)) (k : Words) (cut : ℕ) : Type 0 where
  pub later : List ℕ
  pub stands : Stands inst (cut ∷ later) k
  pub shown : Shown inst free k

pub record PlacesCut (inst : ProblemInstance) (h : BaselineGuillotineHeuristic) (k : Words) (cut : ℕ) (after : List (List Rect)) (r : Words) : Type 0 where
  pub words : r ≡ with_cut inst h k cut
  pub is : candidate_in inst r ≡ place_cut_first_fit inst.kerf_width h (candidate_in inst k) (cut_in inst cut)
  pub stands : (later : List ℕ) → Stands inst (cut ∷ later) k → Stands inst later r
  pub shown : Shown inst after r

pub record PlacesCuts (inst : ProblemInstance) (h : BaselineGuillotineHeuristic) (k : Words) (order : List ℕ) (after : List (List Rect)) (r : Words) : Type 0 where
  pub words : r ≡ with_cuts inst h k order
  pub is : candidate_in inst r ≡ place_cuts inst.kerf_width h (candidate_in inst k) (map (cut_in inst) order)
  pub stands : Stands inst [] r
  pub shown : Shown inst after r

pub record Reinserts (inst : ProblemInstance) (h : BaselineGuillotineHeuristic) (k : Words) (after : List (List Rect)) (r : Words) : Type 0 where
  pub words : r ≡ reinserted inst h k
  pub is : candidate_in inst r ≡ reinsert_unused_first_fit inst.kerf_width h (candidate_in inst k)
  pub stands : Stands inst [] r
  pub shown : Shown inst after r
