-- The boards made bare and the insertions made again are the sheets rebuilt; and what that is for a candidate.
use Prim.Native.Nat.{ℕ, ◌<◌}
use native.Mathlib.Omega.{arith}
use mathlib.Core.Path.{◌≡◌, ◌∙◌}
use mathlib.Core.Bool.{Bool, true}
use mathlib.Core.List.{List, ◌++◌, map, Memᴰ}
use lib.ListN.{length}
use Rattle.lists.proofs.Perm.{perm_sym, all_map, all_both, all_left, all_perm, in_all}
use Rattle.lists.proofs.Counts.{range_below}
use Rattle.lists.proofs.Every.{all_of_map}
use Rattle.model.specs.declared.Rect.{Rect}
use Rattle.model.specs.Expand.{ProblemInstance}
use Rattle.lists.specs.Elements.{All}
use Rattle.trust.specs.Admitted.{Ranged}
use Rattle.candidate.specs.declared.Candidate.{Candidate as Words}
use Rattle.candidate.specs.Entries.{board_of, cut_of}
use Rattle.candidate.specs.Moves.{new_words}
use Rattle.candidate.specs.Stands.{Stands, sheet_boards, available_boards, placed_words, unused_numbers}
use Rattle.candidate.specs.Bins.{Other, ShowsBin, Shown}
use Rattle.candidate.proofs.Standing.{boards_split, boards_below, few_placed}
use Rattle.candidate.specs.Rebuilding.{OpensBoards, rebuilds_all, ShowsBare, Makable, InsertsAll, Rebuildable, Rebuilds}
use Rattle.candidate.proofs.placing.Remaking.{all_rebuilt}

module _ (inst : ProblemInstance) (boards words : List ℕ) (before opened : List (List Rect)) (ok : Rebuildable inst boards words) (opens : OpensBoards inst boards before opened) where
  pub rebuild_makable : Makable inst opened words
  rebuild_makable =
      record {
        few = ok.few;
        boards = all_map (λ w. Memᴰ (board_of w) boards) _ (λ w m. in_all (λ b. b < length inst.stock) boards ok.known m) words ok.on;
        cuts = ok.cuts;
        bare = all_map (λ w. Memᴰ (board_of w) boards) _ (λ w m. in_all (ShowsBare inst opened) boards opens.bare m) words ok.on;
      }

  pub rebuild_done : (after : List (List Rect)) (r : Bool) → InsertsAll inst words opened after r → Rebuilds inst boards words before after r
  rebuild_done after r i =
      record {
        answer = i.answer boards ok.on;
        shown = λ e. all_both (λ b. b < length inst.stock) (ShowsBare inst opened) (ShowsBin inst words after) (λ b h f. i.shown e b h f) boards ok.known opens.bare;
        others = λ b h.
            i.others b (all_map (λ w. Memᴰ (board_of w) boards) (λ w. Other b (board_of w)) (λ w m. in_all (Other b) boards h m) words ok.on) ∙ opens.others b h;
      }

-- ---- a candidate

-- a new one has no sheet to show
pub new_shown : (inst : ProblemInstance) (free : List (List Rect)) → Shown inst free new_words
unfolding new_words
new_shown inst free = record { sheets = tt }

module _ (inst : ProblemInstance) (later : List ℕ) (k : Words) (st : Stands inst later k) where
  pub candidate_rebuildable : Ranged inst → Rebuildable inst (sheet_boards k) (placed_words k)
  candidate_rebuildable r =
      let cuts : All (λ c. c < length inst.cuts) (map cut_of (placed_words k) ++ (unused_numbers k ++ later)) =
      all_perm (λ c. c < length inst.cuts) (perm_sym st.cuts) (range_below (length inst.cuts)) in
      record {
        few = omega (arith, few_placed inst later k st r);
        known = all_left (λ b. b < length inst.stock) (sheet_boards k) (available_boards inst k) (rw (boards_split inst later k st r) (boards_below inst later k st r));
        cuts = all_of_map (λ c. c < length inst.cuts) cut_of (placed_words k) (all_left (λ c. c < length inst.cuts) (map cut_of (placed_words k)) (unused_numbers k ++ later) cuts);
        on = st.on;
      }

  -- its sheets are rebuilt
  candidate_rebuilds : rebuilds_all inst (placed_words k) (sheet_boards k) ≡ true
  candidate_rebuilds = all_rebuilt inst (placed_words k) (sheet_boards k) st.rebuilt

  pub candidate_shown : (before after : List (List Rect)) (r : Bool) → Rebuilds inst (sheet_boards k) (placed_words k) before after r → Shown inst after k
  candidate_shown before after r b = record { sheets = b.shown (b.answer ∙ candidate_rebuilds) }
