-- The two answers of a crossover, and the rebuilding that decides between them.
use Prim.Native.Nat.{ℕ, ◌≤◌, ◌<◌}
use native.Mathlib.Omega.{arith}
use mathlib.Core.Path.{◌≡◌, sym, ap, ap₂, ◌∙◌, subst}
use mathlib.Core.Bool.{true, false}
use mathlib.Core.List.{List, [], ◌∷◌, map}
use mathlib.Core.Option.{Option, none, some}
use Rattle.std.specs.Prelude.{None, Some}
use lib.ListN.{length, get_or}
use Rattle.lists.specs.Base.{◌>>=◌, is_some, all}
use Rattle.lists.proofs.Options.{none_by, some_by}
use Rattle.lists.proofs.Booleans.{and_true}
use Rattle.model.specs.declared.BaselineGuillotineHeuristic.{BaselineGuillotineHeuristic}
use Rattle.model.specs.Sheet.{GuillotineSheet, rebuild}
use Rattle.model.specs.Expand.{ProblemInstance}
use Rattle.project.specs.Problem.{Sound, board_in}
use Rattle.candidate.specs.declared.Candidate.{Candidate as Words}
use Rattle.candidate.specs.Entries.{cut_of}
use Rattle.candidate.specs.Moves.{new_words}
use Rattle.candidate.specs.Stands.{making_in, placed_words, unused_numbers, candidate_in, Stands}
use Rattle.candidate.specs.Rebuilding.{rebuilds_all, Rebuildable}
use Rattle.candidate.specs.OnSheets.{IsBestDonor}
use Rattle.candidate.specs.Donated.{with_insertions, with_unused_cuts, donated, others_than, place_among, sheet_of, child_words}
use Rattle.candidate.specs.Children.{child_in, IsChildOf}
use Rattle.candidate.proofs.variation.Sheets.{index_known}
use Rattle.candidate.proofs.variation.Crossed.{Ready, child_ready, child_of_lem, child_none, child_some, child_stands}

-- the rebuilding of one board
one_board : (inst : ProblemInstance) (words : List ℕ) (b : ℕ) → rebuilds_all inst words (b ∷ []) ≡ is_some (rebuild inst.kerf_width (board_in inst b) (making_in inst words b))
unfolding rebuilds_all all
one_board inst words b = and_true (is_some (rebuild inst.kerf_width (board_in inst b) (making_in inst words b)))

-- ---- the child of a donor's sheet

module _ (inst : ProblemInstance) (sound : Sound inst) (h : BaselineGuillotineHeuristic) (left right : Words) (l : Stands inst [] left) (r : Stands inst [] right) (i : ℕ)
    (best : IsBestDonor (candidate_in inst right).bins i) where
  abbrev board : ℕ
  board = get_or right.boards i 0

  abbrev child : Words
  child = child_words (length inst.cuts) left right board h

  abbrev words : List ℕ
  words = donated (placed_words right) board h

  ready : Ready inst left right board h
  ready = child_ready inst sound.admitted sound.ranged h left right l r i best

  pub index_most : i < 64
  index_most = omega (arith, index_known inst right r i best.0, sound.ranged.few_boards)

  pub board_most : board < 64
  board_most = omega (arith, ready.board_known, sound.ranged.few_boards)

  pub donor_few : length (placed_words right) ≤ 64
  donor_few = omega (arith, r.counts, sound.ranged.few_panels)

  pub index_found : place_among board left.boards < 64
  index_found = omega (arith, ready.index, sound.ranged.few_boards)

  -- the insertions that were made, as words
  module _ (made : Words) (e : made ≡ with_insertions new_words words) (insertions : List ℕ) (f : insertions ≡ placed_words made) where
    made_words : insertions ≡ words
    unfolding with_insertions new_words
    made_words = f ∙ ap placed_words e

    pub made_rebuildable : Rebuildable inst (board ∷ []) insertions
    made_rebuildable =
        subst (Rebuildable inst (board ∷ [])) (sym made_words) (record { few = ready.few; known = (ready.board_known, tt); cuts = ready.cuts; on = ready.on })

    abbrev Rebuilt : Option GuillotineSheet
    Rebuilt = rebuild inst.kerf_width (board_in inst board) (making_in inst words board)

    again : rebuilds_all inst insertions (board ∷ []) ≡ is_some Rebuilt
    again = ap (λ (w : List ℕ). rebuilds_all inst w (board ∷ [])) made_words ∙ one_board inst words board

    -- the donor's board is the one of its first fittest sheet
    child_in_is : child_in inst h left right ≡ (Rebuilt >>= λ sheet. some child)
    unfolding child_in
    child_in_is =
        ap (λ (o : Option (ℕ × GuillotineSheet)). o >>= λ donor. rebuild inst.kerf_width (board_in inst (get_or right.boards donor.0 0))
        (making_in inst (donated (placed_words right) (get_or right.boards donor.0 0) h) (get_or right.boards donor.0 0)) >>= λ sheet.
        some (child_words (length inst.cuts) left right (get_or right.boards donor.0 0) h)) best.1

    pub answer_none : rebuilds_all inst insertions (board ∷ []) ≡ false → IsChildOf inst h left right None
    answer_none n =
        let e : Rebuilt ≡ none = none_by Rebuilt (sym again ∙ n) in
        record {
          words = sym (child_in_is ∙ ap (λ (o : Option GuillotineSheet). o >>= λ sheet. some child) e);
          is = child_of_lem inst sound.admitted sound.ranged h left right l r i best ∙ child_none inst sound.admitted sound.ranged h left right l r i best e;
        }

    answer_some : rebuilds_all inst insertions (board ∷ []) ≡ true → IsChildOf inst h left right (Some child)
    answer_some y =
        let t = some_by Rebuilt (sym again ∙ y) in
        record {
          words = sym (child_in_is ∙ ap (λ (o : Option GuillotineSheet). o >>= λ sheet. some child) t.1);
          is = record {
            is = child_of_lem inst sound.admitted sound.ranged h left right l r i best ∙ child_some inst sound.admitted sound.ranged h left right l r i best t.0 t.1;
            stands = child_stands inst sound.admitted sound.ranged h left right l r i best t.0 t.1;
          };
        }

    -- the words of the child

    module _ (sheet : Words) (g : sheet ≡ sheet_of left made board) where
      pub sheet_room : unused_numbers sheet ≡ []
      unfolding sheet_of with_insertions new_words
      sheet_room = ap unused_numbers (g ∙ ap (λ (k : Words). sheet_of left k board) e)

      child_is : (result : Words) (cuts : ℕ) → cuts ≡ length inst.cuts → result ≡ with_unused_cuts sheet (others_than (map cut_of (placed_words sheet)) cuts) → result ≡ child
      unfolding child_words
      child_is result cuts n is =
          is ∙ ap₂ (λ (k : Words) (m : ℕ). with_unused_cuts k (others_than (map cut_of (placed_words k)) m)) (g ∙ ap (λ (k : Words). sheet_of left k board) e) n

      pub child_made : (result : Words) (cuts : ℕ) → cuts ≡ length inst.cuts → result ≡ with_unused_cuts sheet (others_than (map cut_of (placed_words sheet)) cuts)
          → rebuilds_all inst insertions (board ∷ []) ≡ true → IsChildOf inst h left right (Some result)
      child_made result cuts n is y =
          subst (λ (k : Words). IsChildOf inst h left right (Some k)) (sym (child_is result cuts n is)) (answer_some y)
