-- The unused cuts of a candidate, to be placed anew.
use native.Mathlib.Omega.{arith}
use mathlib.Core.Path.{◌≡◌, refl, subst}
use mathlib.Core.List.{List, [], ◌++◌, map, append-nil}
use Rattle.model.specs.declared.BaselineGuillotineHeuristic.{BaselineGuillotineHeuristic}
use Rattle.model.specs.declared.CutInstance.{CutInstance}
use Rattle.model.specs.Candidate.{place_cuts, reinsert_unused_first_fit}
use Rattle.model.specs.Expand.{ProblemInstance}
use Rattle.lists.specs.Elements.{Perm}
use Rattle.trust.specs.Proper.{placed_cuts}
use Rattle.candidate.specs.declared.Candidate.{Candidate as Words}
use Rattle.candidate.specs.Moves.{without_unused}
use Rattle.candidate.specs.Stands.{Stands, unused_numbers, candidate_in}
use Rattle.project.specs.Problem.{cut_in}

-- reinsert_unused_first_fit places them on the candidate without them
pub reinsert_is : (inst : ProblemInstance) (h : BaselineGuillotineHeuristic) (k : Words)
    → place_cuts inst.kerf_width h (candidate_in inst (without_unused k)) (map (cut_in inst) (unused_numbers k)) ≡ reinsert_unused_first_fit inst.kerf_width h (candidate_in inst k)
unfolding candidate_in without_unused reinsert_unused_first_fit
reinsert_is inst h k = refl

pub reinsert_stands : (inst : ProblemInstance) (k : Words) → Stands inst [] k → Stands inst (unused_numbers k) (without_unused k)
unfolding candidate_in without_unused
reinsert_stands inst k st =
    let kept = st.proper.kept in
    record {
      room = st.room;
      sheets = st.sheets;
      boards = st.boards;
      cuts = rw append-nil at st.cuts;
      counts = omega (arith, st.counts);
      on = st.on;
      rebuilt = st.rebuilt;
      proper = record {
        kept = record {
          boards = kept.boards;
          panels = subst (λ (u : List CutInstance). Perm (placed_cuts (candidate_in inst k).bins ++ u) inst.cuts) (append-nil (map (cut_in inst) (unused_numbers k))) kept.panels;
          sheets = kept.sheets;
        };
        filled = st.proper.filled;
      };
    }
