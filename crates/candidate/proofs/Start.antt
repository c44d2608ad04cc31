-- The new candidate: every board available and in order, and every cut still to be placed.
use Prim.Native.Nat.{ℕ}
use native.Mathlib.Omega.{arith}
use mathlib.Core.Path.{◌≡◌, ap, ◌∙◌, subst}
use mathlib.Core.List.{List, [], map}
use lib.ListN.{length, take}
use Rattle.lists.specs.Base.{range}
use Rattle.lists.specs.Elements.{Perm}
use Rattle.lists.proofs.Perm.{perm_refl, map_perm, length_perm}
use Rattle.lists.proofs.Sums.{length_count_from}
use Rattle.lists.proofs.Counts.{take_count, map_get}
use Rattle.model.specs.declared.CutInstance.{CutInstance}
use Rattle.model.specs.Candidate.{new_candidate}
use Rattle.model.specs.Expand.{ProblemInstance}
use Rattle.trust.specs.Admitted.{Admitted, Ranged}
use Rattle.trust.proofs.Proper.{start_proper}
use Rattle.candidate.specs.Moves.{new_words}
use Rattle.candidate.specs.Stands.{Stands, candidate_in}
use Rattle.project.specs.Problem.{board_in, cut_in}

module _ (inst : ProblemInstance) (r : Ranged inst) where
  boards_first : take (length inst.stock) new_words.boards ≡ range (length inst.stock)
  unfolding new_words
  boards_first = take_count 0 (length inst.stock) 64 r.few_boards

  all_boards : map (board_in inst) (range (length inst.stock)) ≡ inst.stock
  unfolding board_in
  all_boards = map_get _ inst.stock

  all_cuts : map (cut_in inst) (range (length inst.cuts)) ≡ inst.cuts
  unfolding cut_in
  all_cuts = map_get _ inst.cuts

  -- Candidate::new
  pub new_is : candidate_in inst new_words ≡ new_candidate inst.stock
  unfolding candidate_in new_words
  new_is = λ j. record { bins = []; available_stock = (ap (map (board_in inst)) boards_first ∙ all_boards) j; unused_cuts = [] }

  -- with any order of all cuts
  pub new_stands : Admitted inst → (order : List ℕ) → Perm order (range (length inst.cuts)) → Stands inst order new_words
  unfolding new_words
  new_stands a order p =
      record {
        room = length_count_from 0 64;
        sheets = omega arith;
        boards = rw boards_first (perm_refl (range (length inst.stock)));
        cuts = p;
        counts = omega (arith, length_perm p, length_count_from 0 (length inst.cuts));
        on = tt;
        rebuilt = tt;
        proper = rw new_is
            (start_proper inst a r (map (cut_in inst) order) (subst (λ (l : List CutInstance). Perm (map (cut_in inst) order) l) all_cuts (map_perm (cut_in inst) p)));
      }
