-- Each sheet of a candidate under way can be made again from its insertions; and how long its plan is.
use Prim.Native.Nat.{ℕ, ◌^◌, ◌≤◌, ◌<◌}
use native.Mathlib.Omega.{arith}
use mathlib.Core.Path.{◌≡◌, ◌∙◌}
use mathlib.Core.List.{List, [], ◌∷◌, ◌++◌, map}
use lib.ListN.{length, get_or, take}
use lib.Seq.{get_or-take}
use lib.Ieee.{Float}
use Rattle.lists.proofs.Perm.{perm_sym, all_left, all_perm, all_map}
use Rattle.lists.proofs.Sums.{length-map}
use Rattle.lists.proofs.Every.{all_get}
use Rattle.lists.proofs.Counts.{range_below}
use Rattle.model.specs.declared.LayoutKind.{LayoutKind}
use Rattle.model.specs.Sheet.{GuillotineSheet, placed_area}
use Rattle.model.specs.Expand.{ProblemInstance}
use Rattle.model.specs.Plan.{plan_words}
use Rattle.lists.specs.Elements.{All}
use Rattle.trust.specs.Admitted.{Ranged}
use Rattle.trust.specs.Proper.{SheetProper}
use Rattle.trust.proofs.Bounded.{placed_most}
use Rattle.trust.proofs.CandidateSize.{candidate_counts}
use Rattle.trust.proofs.PlanSize.{counted, plan_most}
use Rattle.candidate.specs.Areas.{areas_of, board_areas, WithinBoards}
use Rattle.candidate.proofs.fitness.Sheets.{board_area, inside_areas, used_stock_area_areas}
use Rattle.candidate.specs.declared.Candidate.{Candidate as Words}
use Rattle.candidate.specs.Entries.{cut_of}
use Rattle.candidate.specs.Stands.{Stands, bin_in, sheet_boards, placed_words, unused_numbers, candidate_in}
use Rattle.candidate.proofs.Standing.{boards_below, length_all_boards, length_sheets, few_placed, RebuiltOn}
use Rattle.plan.specs.Replaying.{Replayable}

module _ (inst : ProblemInstance) (r : Ranged inst) (k : Words) (st : Stands inst [] k) where
  abbrev bins : List GuillotineSheet
  bins = (candidate_in inst k).bins

  -- ---- the sheet at an index

  pub bins_length : length bins ≡ k.sheets
  unfolding candidate_in
  bins_length = length-map (bin_in inst (placed_words k)) (sheet_boards k) ∙ length_sheets inst [] k st r

  below_cuts : (ws : List ℕ) → All (λ c. c < length inst.cuts) (map cut_of ws) → All (λ w. cut_of w < length inst.cuts) ws
  below_cuts [] h = tt
  below_cuts (w ∷ ws) h = (h.0, below_cuts ws h.1)

  module _ (j : ℕ) (h : j < k.sheets) where
    abbrev board : ℕ
    board = get_or k.boards j 0

    sheet_board : get_or (sheet_boards k) j 0 ≡ board
    sheet_board = get_or-take k.sheets k.boards j 0 h

    pub board_known : board < length inst.stock
    board_known =
        let all : List ℕ = take (length inst.stock) k.boards in
        rw (get_or-take (length inst.stock) k.boards j 0 (omega (arith, st.sheets))) at
        (all_get (λ b. b < length inst.stock) all j 0 (boards_below inst [] k st r) (omega (arith, length_all_boards inst [] k st r, st.sheets)))

    pub rebuildable : Replayable inst (placed_words k) board
    rebuildable =
        record {
          few = omega (arith, few_placed inst [] k st r);
          known = board_known;
          cuts = below_cuts (placed_words k) (all_left (λ c. c < length inst.cuts) (map cut_of (placed_words k)) (unused_numbers k ++ [])
              (all_perm (λ c. c < length inst.cuts) (perm_sym st.cuts) (range_below (length inst.cuts))));
          rebuilt = rw sheet_board at (all_get (RebuiltOn inst (placed_words k)) (sheet_boards k) j 0 st.rebuilt (omega (arith, length_sheets inst [] k st r)));
        }

  -- ---- all sheets

  pub plan_fits : (layout : LayoutKind) (f : Float) → length (plan_words layout f bins) ≤ 4420
  plan_fits layout f =
      let c = candidate_counts inst r [] (candidate_in inst k) st.proper in
      omega (arith, plan_most layout f bins (counted inst.kerf_width bins st.proper.kept.sheets), c.pieces, c.sheets, r.few_panels)

  pub inside : WithinBoards (map areas_of bins)
  inside =
      inside_areas bins
      (all_map (SheetProper inst.kerf_width) (λ b. placed_area b ≤ board_area b) (λ b h. placed_most inst.kerf_width b h.bounded.layout) bins st.proper.kept.sheets)

  pub areas_most : board_areas (map areas_of bins) ≤ 2 ^ 53
  areas_most = omega (arith, (candidate_counts inst r [] (candidate_in inst k) st.proper).area, used_stock_area_areas bins)
