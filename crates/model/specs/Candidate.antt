-- A candidate and what is done to one: `Candidate`, `StockInventory`, `CutCatalog`.
use Prim.Native.Nat.{ℕ, ◌-◌, compare, Ordering}
use Rattle.std.specs.Prelude.{Bool, false, not, ◌&&◌, ◌||◌, List, [], ◌∷◌, ◌++◌, map, ltb, length, Float, if◌then◌else◌}
use Rattle.std.proofs.Math.Option.{Option, none, some, get_or}
use Rattle.lists.specs.Base.{◌>>=◌, ◌<|>◌, is_some, is_less, then_with, sum, any, retain, is_empty, find, enumerate, first_best, remove_at, foldl, concat_map, map_option}
use Rattle.model.specs.Types.{BaselineGuillotineHeuristic, StockInstance, CutInstance, InstanceKey, cut_area, cut_key, same_key}
use Rattle.model.specs.Sheet.{GuillotineSheet, Insertion, new_sheet, try_insert, sheet_keys}
use Rattle.model.specs.Fitness.{sheet_fitness, used_stock_area, fitness, compare_float, compare_fitness}

-- Candidate; its cut_catalog is the instance's cuts throughout, and is passed
pub record Candidate : Type 0 where
  pub bins : List GuillotineSheet
  pub available_stock : List StockInstance
  pub unused_cuts : List CutInstance

-- Candidate::new
abbrev pub new_candidate : List StockInstance → Candidate
new_candidate stock = record { bins = []; available_stock = stock; unused_cuts = [] }

-- ---- keys

unfoldable pub contains_key : InstanceKey → List InstanceKey → Bool
contains_key key keys = any (same_key key) keys

-- CutCatalog::cut
unfoldable pub cut_for_key : List CutInstance → InstanceKey → Option CutInstance
cut_for_key catalog key = find (λ c. same_key (cut_key c) key) catalog

-- cuts_for_keys
unfoldable pub cuts_for_keys : List CutInstance → List InstanceKey → Option (List CutInstance)
cuts_for_keys catalog keys = map_option (cut_for_key catalog) keys

-- placed_cut_keys of a candidate
unfoldable pub placed_cut_keys : List GuillotineSheet → List InstanceKey
placed_cut_keys bins = concat_map sheet_keys bins

-- remove_unused_cut
unfoldable pub remove_unused_cut : InstanceKey → List CutInstance → List CutInstance
remove_unused_cut key cuts = retain (λ c. not (same_key (cut_key c) key)) cuts

-- ---- placing a cut

-- the loop over the bins in place_cut_first_fit
unfoldable pub insert_in_bins : ℕ → Insertion → List GuillotineSheet → Option (List GuillotineSheet)
insert_in_bins kerf i [] = none
insert_in_bins kerf i (bin ∷ bins) =
    (try_insert kerf bin i >>= λ b. some (b ∷ bins)) <|> (insert_in_bins kerf i bins >>= λ bs. some (bin ∷ bs))

-- take_first_fitting_stock: the new bin, and the stock that is left
pub record Taken : Type 0 where
  pub bin : GuillotineSheet
  pub stock : List StockInstance

unfoldable pub take_first_fitting_stock : ℕ → Insertion → List StockInstance → Option Taken
take_first_fitting_stock kerf i [] = none
take_first_fitting_stock kerf i (s ∷ stock) =
    (try_insert kerf (new_sheet s) i >>= λ b. some (record { bin = b; stock = stock }))
    <|> (take_first_fitting_stock kerf i stock >>= λ t. some (record { bin = t.bin; stock = s ∷ t.stock }))

-- the three ends of place_cut_first_fit: in a bin, on a new board, unused
abbrev pub in_bins : Candidate → CutInstance → List GuillotineSheet → Candidate
in_bins c cut bins = record { bins = bins; available_stock = c.available_stock; unused_cuts = remove_unused_cut (cut_key cut) c.unused_cuts }

abbrev pub on_new_board : Candidate → CutInstance → Taken → Candidate
on_new_board c cut t =
    record { bins = c.bins ++ (t.bin ∷ []); available_stock = t.stock; unused_cuts = remove_unused_cut (cut_key cut) c.unused_cuts }

abbrev pub unplaced : Candidate → CutInstance → Candidate
unplaced c cut = record { bins = c.bins; available_stock = c.available_stock; unused_cuts = c.unused_cuts ++ (cut ∷ []) }

unfoldable pub first_end : Candidate → CutInstance → Option (List GuillotineSheet) → Option Taken → Candidate
first_end c cut (some bins) taken = in_bins c cut bins
first_end c cut none (some t) = on_new_board c cut t
first_end c cut none none = unplaced c cut

-- place_cut_first_fit
unfoldable pub place_cut_first_fit : ℕ → BaselineGuillotineHeuristic → Candidate → CutInstance → Candidate
place_cut_first_fit kerf h c cut =
    let i : Insertion = record { cut = cut; heuristic = h } in
    first_end c cut (insert_in_bins kerf i c.bins) (take_first_fitting_stock kerf i c.available_stock)

unfoldable pub place_cuts : ℕ → BaselineGuillotineHeuristic → Candidate → List CutInstance → Candidate
place_cuts kerf h c cuts = foldl (place_cut_first_fit kerf h) c cuts

-- reinsert_unused_first_fit
unfoldable pub reinsert_unused_first_fit : ℕ → BaselineGuillotineHeuristic → Candidate → Candidate
reinsert_unused_first_fit kerf h c =
    place_cuts kerf h (record { bins = c.bins; available_stock = c.available_stock; unused_cuts = [] }) c.unused_cuts

-- ---- compaction

-- worst_bin_index, with the bin: the first least fit
unfoldable pub worst_bin : List GuillotineSheet → Option (ℕ × GuillotineSheet)
worst_bin bins = first_best (λ a b. is_less (compare_float (sheet_fitness a.1) (sheet_fitness b.1))) (enumerate bins)

-- compact_worst_bin_for_repair: its bin taken apart, if there are two or more. That the removed cuts go last, a row of Plans turns on
unfoldable pub compacted : List CutInstance → Candidate → Option Candidate
compacted catalog c =
    worst_bin c.bins >>= λ w. cuts_for_keys catalog (sheet_keys w.1) >>= λ removed. some (record {
      bins = remove_at w.0 c.bins;
      available_stock = c.available_stock ++ (w.1.stock ∷ []);
      unused_cuts = c.unused_cuts ++ removed;
    })

unfoldable pub compact_worst_bin : List CutInstance → Candidate → Candidate
compact_worst_bin catalog c = if ltb (length c.bins) 2 then c else get_or (compacted catalog c) c

-- ---- validity

-- has_duplicate_placed_cut_keys: a key among those behind it
unfoldable pub has_duplicate_keys : List InstanceKey → Bool
has_duplicate_keys [] = false
has_duplicate_keys (key ∷ keys) = contains_key key keys || has_duplicate_keys keys

-- is_valid
unfoldable pub is_valid : List CutInstance → Candidate → Bool
is_valid catalog c =
    is_empty c.unused_cuts && not (has_duplicate_keys (placed_cut_keys c.bins)) && is_some (cuts_for_keys catalog (placed_cut_keys c.bins))

-- ---- score

pub record CandidateScore : Type 0 where
  pub used_stock_count : ℕ
  pub waste_area : ℕ
  pub fitness : Option Float

-- score
unfoldable pub score : List CutInstance → Candidate → Option CandidateScore
score catalog c =
    cuts_for_keys catalog (placed_cut_keys c.bins) >>= λ placed. some (record {
      used_stock_count = length c.bins;
      waste_area = used_stock_area c.bins - sum (map cut_area placed);
      fitness = fitness c.bins;
    })

-- compare_candidate_score: fewer sheets, less waste, higher fitness
unfoldable pub compare_score : CandidateScore → CandidateScore → Ordering
compare_score left right =
    then_with (compare right.used_stock_count left.used_stock_count)
    (then_with (compare right.waste_area left.waste_area) (compare_fitness left.fitness right.fitness))

-- compare_optional_candidate_score
unfoldable pub compare_optional_score : Option CandidateScore → Option CandidateScore → Ordering
compare_optional_score (some left) (some right) = compare_score left right
compare_optional_score (some left) none = Ordering.gt
compare_optional_score none (some right) = Ordering.lt
compare_optional_score none none = Ordering.eq
