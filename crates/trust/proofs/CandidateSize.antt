-- How large a candidate is: its sheets are no more than the boards and no more than its pieces, its pieces no more than the panels, and the
-- areas of its sheets add up to at most 64 boards'.
use Prim.Native.Nat.{ℕ, ◌+◌, ◌^◌, ◌≤◌, ◌<◌}
use native.Mathlib.Nat.{le_trans}
use native.Mathlib.Omega.{arith}
use mathlib.Core.Path.{◌≡◌, refl, ap}
use mathlib.Core.List.{List, [], ◌∷◌, ◌++◌, map}
use lib.ListN.{length, length-append}
use Rattle.lists.specs.Base.{sum, concat_map}
use Rattle.lists.specs.Elements.{All}
use Rattle.model.specs.declared.StockInstance.{StockInstance}
use Rattle.model.specs.declared.CutInstance.{CutInstance}
use Rattle.model.specs.Types.{stock_area, cut_area}
use Rattle.model.specs.Sheet.{GuillotineSheet}
use Rattle.model.specs.Refusal.{most_instances}
use Rattle.model.specs.Fitness.{used_stock_area}
use Rattle.model.specs.Candidate.{Candidate}
use Rattle.model.specs.Expand.{ProblemInstance}
use Rattle.model.specs.Plan.{nodes_of}
use Rattle.lists.proofs.Perm.{all_map, all_both, length_perm, sum_perm}
use Rattle.lists.proofs.Sums.{length-map, sum_append, sum_most}
use Rattle.trust.specs.Limits.{most_area, most_areas, most_pieces, most_waste, most_nodes, most_free}
use Rattle.trust.specs.Proper.{Filled, Kept, SheetProper, UnderWay, boards_of, cuts_of, placed_cuts}
use Rattle.trust.specs.Admitted.{BoardRange, PanelRange, Ranged}
use Rattle.trust.proofs.Bounded.{board_area_most, panel_area_most}
use Rattle.trust.proofs.Filled.{cuts_count}

-- ---- pieces

unfoldable pub piece_count : List GuillotineSheet → ℕ
piece_count bins = sum (map (λ s. length s.placed_pieces) bins)

pub placed_count : (bins : List GuillotineSheet) → length (placed_cuts bins) ≡ piece_count bins
unfolding concat_map piece_count sum
placed_count [] = refl
placed_count (b ∷ bins) = omega (arith, length-append (cuts_of b) (placed_cuts bins), cuts_count b, placed_count bins)

-- a sheet has no more pieces than all of them
pub each_count : (bins : List GuillotineSheet) → All (λ s. length s.placed_pieces ≤ piece_count bins) bins
unfolding piece_count sum
each_count [] = tt
each_count (b ∷ bins) = (
  omega arith,
  all_map (λ s. length s.placed_pieces ≤ piece_count bins) (λ s. length s.placed_pieces ≤ piece_count (b ∷ bins)) (λ s h. omega arith) bins (each_count bins),
)

-- and a piece at least, so there are no more sheets than pieces
pub filled_count : (bins : List GuillotineSheet) → All Filled bins → length bins ≤ piece_count bins
unfolding piece_count sum
filled_count [] h = omega arith
filled_count (b ∷ bins) h = omega (arith, h.0, filled_count bins h.1)

-- the free rectangles of all sheets: one a piece, and one a sheet
unfoldable pub free_count : List GuillotineSheet → ℕ
free_count bins = sum (map (λ s. length s.free_rects) bins)

pub free_count_lem : (kerf : ℕ) (bins : List GuillotineSheet) → All (SheetProper kerf) bins → free_count bins ≤ piece_count bins + length bins
unfolding free_count piece_count sum
free_count_lem kerf [] h = omega arith
free_count_lem kerf (b ∷ bins) h = omega (arith, h.0.bounded.free, free_count_lem kerf bins h.1)

-- ---- areas

pub stock_area_most : (inst : ProblemInstance) → Ranged inst → sum (map stock_area inst.stock) ≤ most_areas
stock_area_most inst r =
    omega (arith, sum_most stock_area most_area inst.stock (all_map BoardRange (λ s. stock_area s ≤ most_area) (λ s h. board_area_most s h) inst.stock r.boards), r.few_boards)

pub cut_area_most : (inst : ProblemInstance) → Ranged inst → sum (map cut_area inst.cuts) ≤ most_areas
cut_area_most inst r =
    omega (arith, sum_most cut_area most_area inst.cuts (all_map PanelRange (λ c. cut_area c ≤ most_area) (λ c h. panel_area_most c h) inst.cuts r.panels), r.few_panels)

-- 64 boards' areas are whole numbers that an f64 holds
pub areas_held : (n : ℕ) → n ≤ most_areas → n < 2 ^ 53
areas_held n h = omega arith

pub used_area : (bins : List GuillotineSheet) → used_stock_area bins ≡ sum (map stock_area (boards_of bins))
unfolding used_stock_area sum
used_area [] = refl
used_area (b ∷ bins) = ap (λ (n : ℕ). stock_area b.stock + n) (used_area bins)

-- ---- a candidate that keeps every board and every panel

module _ (P : GuillotineSheet → Type 0) (stock : List StockInstance) (cuts later : List CutInstance) (c : Candidate) (k : Kept P stock cuts later c) where
  pub pieces_kept : piece_count c.bins + length c.unused_cuts + length later ≡ length cuts
  pieces_kept =
      omega (
        arith,
        length_perm k.panels,
        length-append (placed_cuts c.bins) (c.unused_cuts ++ later),
        length-append c.unused_cuts later,
        placed_count c.bins,
      )

  pub boards_kept : length c.bins + length c.available_stock ≡ length stock
  boards_kept = omega (arith, length_perm k.boards, length-append (boards_of c.bins) c.available_stock, length-map (λ b. b.stock) c.bins)

  pub areas_kept : used_stock_area c.bins ≤ sum (map stock_area stock)
  areas_kept = omega (arith, sum_perm stock_area k.boards, sum_append stock_area (boards_of c.bins) c.available_stock, used_area c.bins)

-- ---- of the search

pub record SheetCounts (s : GuillotineSheet) : Type 0 where
  pub pieces : length s.placed_pieces ≤ most_pieces
  pub waste : length s.free_rects ≤ most_waste
  pub nodes : length (nodes_of s.slicing_tree) ≤ most_nodes

pub record CandidateCounts (inst : ProblemInstance) (c : Candidate) : Type 0 where
  pub pieces : piece_count c.bins ≤ length inst.cuts
  pub boards : length c.bins ≤ length inst.stock
  pub sheets : length c.bins ≤ piece_count c.bins
  pub few : length c.bins ≤ most_instances
  pub unused : length c.unused_cuts ≤ most_instances
  pub available : length c.available_stock ≤ most_instances
  pub free : free_count c.bins ≤ most_free
  pub each : All SheetCounts c.bins
  pub area : used_stock_area c.bins ≤ most_areas

sheet_counts : (kerf : ℕ) (s : GuillotineSheet) → length s.placed_pieces ≤ most_pieces → SheetProper kerf s → SheetCounts s
sheet_counts kerf s h p = record { pieces = h; waste = omega (arith, p.bounded.free); nodes = omega (arith, p.bounded.nodes) }

-- at any time of a placement
pub candidate_counts : (inst : ProblemInstance) → Ranged inst → (later : List CutInstance) (c : Candidate) → UnderWay inst later c → CandidateCounts inst c
candidate_counts inst r later c h =
    let k = h.kept in
    let pieces = pieces_kept _ inst.stock inst.cuts later c k in
    let boards = boards_kept _ inst.stock inst.cuts later c k in
    let areas = areas_kept _ inst.stock inst.cuts later c k in
    let sheets = filled_count c.bins h.filled in
    let most : piece_count c.bins ≤ most_pieces = omega (arith, r.few_panels) in
    record {
      pieces = omega arith;
      boards = omega arith;
      sheets = sheets;
      few = omega (arith, r.few_boards);
      unused = omega (arith, r.few_panels);
      available = omega (arith, r.few_boards);
      free = omega (arith, free_count_lem inst.kerf_width c.bins k.sheets, r.few_boards);
      each =
          all_both (λ s. length s.placed_pieces ≤ piece_count c.bins) (SheetProper inst.kerf_width) SheetCounts (λ s n p. sheet_counts inst.kerf_width s (le_trans n most) p) c.bins
          (each_count c.bins) k.sheets;
      area = omega (arith, stock_area_most inst r);
    }

-- while a cut is to be placed there is room for its piece
pub room : (inst : ProblemInstance) → Ranged inst → (cut : CutInstance) (later : List CutInstance) (c : Candidate) → UnderWay inst (cut ∷ later) c → piece_count c.bins < most_pieces
room inst r cut later c h = omega (arith, pieces_kept _ inst.stock inst.cuts (cut ∷ later) c h.kept, r.few_panels)
