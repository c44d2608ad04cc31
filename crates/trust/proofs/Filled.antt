-- Every sheet of every candidate has a piece: a bin is opened by an insertion, and a crossover child rebuilds a donor's sheet, which has one.
use Prim.Native.Nat.{ℕ, ◌<◌}
use native.Mathlib.Omega.{arith}
use mathlib.Core.Path.{◌≡◌, refl, ap, ◌∙◌, subst}
use mathlib.Core.List.{List, [], ◌∷◌, map}
use mathlib.Core.Option.{Option, none, some}
use lib.ListN.{length, length-append}
use Rattle.lists.specs.Base.{◌>>=◌, to_list, foldl}
use Rattle.lists.specs.Elements.{All}
use Rattle.model.specs.declared.BaselineGuillotineHeuristic.{BaselineGuillotineHeuristic}
use Rattle.model.specs.declared.StockInstance.{StockInstance}
use Rattle.model.specs.declared.CutInstance.{CutInstance}
use Rattle.model.specs.Types.{cut_key}
use Rattle.model.specs.Sheet.{GuillotineSheet, Insertion, new_sheet, try_insert, rebuild, making_of, sheet_keys}
use Rattle.model.specs.Candidate.{Candidate, Taken, new_candidate, cut_for_key, cuts_for_keys, insert_in_bins, take_first_fitting_stock, first_end, place_cut_first_fit, place_cuts, reinsert_unused_first_fit, compact_worst_bin}
use Rattle.model.specs.Expand.{ProblemInstance}
use Rattle.model.specs.Search.{SearchNumbers, Seed, initial_seeds, candidate_from_seed, initial_population, best_donor_bin, child_of}
use Rattle.trust.specs.Proper.{AllFilled, Filled, cuts_of}
use Rattle.lists.proofs.Perm.{all_append}
use Rattle.lists.proofs.Sums.{length-map, length_map_option}
use Rattle.lists.proofs.Every.{all_any, all_remove_at, concat_map_all}
use Rattle.trust.proofs.Placing.{first_best_all}
use Rattle.trust.proofs.Sheet.{all_inserted}
use Rattle.trust.proofs.Candidate.{inserted_cuts, insert_in_bins_placed, take_first_opened}
use Rattle.trust.proofs.Compact.{without_worst}
use Rattle.trust.proofs.Crossover.{insertions, child_all}

-- ---- the cuts on a sheet are as many as its pieces

pub cuts_count : (s : GuillotineSheet) → length (cuts_of s) ≡ length s.placed_pieces
unfolding cuts_of making_of
cuts_count s = length-map _ (map (λ p. p.by) s.placed_pieces) ∙ length-map _ s.placed_pieces

insert_filled : (kerf : ℕ) (s : GuillotineSheet) (i : Insertion) (t : GuillotineSheet) → try_insert kerf s i ≡ some t → Filled t
insert_filled kerf s i t e = omega (arith, cuts_count t, ap length (inserted_cuts kerf s i t e), length-append (cuts_of s) (i.cut ∷ []))

-- ---- placing

module _ (kerf : ℕ) (h : BaselineGuillotineHeuristic) where
  pub place_filled : (c : Candidate) (cut : CutInstance) → AllFilled c → AllFilled (place_cut_first_fit kerf h c cut)
  unfolding place_cut_first_fit first_end
  place_filled c cut k = ends (insert_in_bins kerf i c.bins) refl (take_first_fitting_stock kerf i c.available_stock) refl
    where
      i : Insertion
      i = record { cut = cut; heuristic = h }

      opened : (t : Taken) → take_first_fitting_stock kerf i c.available_stock ≡ some t → Filled t.bin
      opened t e =
          let o = take_first_opened (λ s. Unit {0}) kerf i (λ s u f p. tt) c.available_stock (all_any c.available_stock) t e in
          omega (arith, cuts_count t.bin, ap length o.cuts)

      ends : (o : Option (List GuillotineSheet)) → insert_in_bins kerf i c.bins ≡ o → (q : Option Taken) → take_first_fitting_stock kerf i c.available_stock ≡ q → AllFilled (first_end c cut o q)
      ends (some bins) e q f = (insert_in_bins_placed Filled kerf i (λ s t g p. insert_filled kerf s i t g) c.bins bins e).sheets k
      ends none e (some t) f = all_append Filled c.bins (t.bin ∷ []) k (opened t f, tt)
      ends none e none f = k

  pub places_filled : (c : Candidate) (cuts : List CutInstance) → AllFilled c → AllFilled (place_cuts kerf h c cuts)
  unfolding place_cuts foldl
  places_filled c [] k = k
  places_filled c (cut ∷ cuts) k = places_filled (place_cut_first_fit kerf h c cut) cuts (place_filled c cut k)

  pub reinsert_filled : (c : Candidate) → AllFilled c → AllFilled (reinsert_unused_first_fit kerf h c)
  unfolding reinsert_unused_first_fit
  reinsert_filled c k = places_filled _ c.unused_cuts k

-- ---- compaction

pub compact_filled : (cuts : List CutInstance) (c : Candidate) → AllFilled c → AllFilled (compact_worst_bin cuts c)
compact_filled cuts c k = without_worst AllFilled cuts c k (λ w removed e f. all_remove_at Filled w.0 c.bins k)

-- ---- crossover

rebuild_filled : (kerf : ℕ) (stock : StockInstance) (is : List Insertion) (t : GuillotineSheet) → 0 < length is → rebuild kerf stock is ≡ some t → Filled t
unfolding rebuild making_of
rebuild_filled kerf stock is t h e = omega (arith, ap length (all_inserted kerf (new_sheet stock) t is e).grown, length-append (making_of (new_sheet stock)) is, length-map (λ p. p.by) t.placed_pieces)

pub child_filled : (inst : ProblemInstance) (row : BaselineGuillotineHeuristic) (left right : Candidate) → AllFilled right → All AllFilled (to_list (child_of inst row left right))
unfolding best_donor_bin cuts_for_keys sheet_keys
child_filled inst row left right r =
    child_all inst row left AllFilled right λ donor child e x.
    let d : Filled donor = first_best_all Filled _ right.bins donor r e in
    let some_cut : 0 < length (insertions row x.cuts) =
    omega (
      arith,
      length-map {B = Insertion} (λ c. record { cut = c; heuristic = row }) x.cuts,
      length_map_option (cut_for_key inst.cuts) (sheet_keys donor) x.cuts x.known,
      length-map (λ p. cut_key p.by.cut) donor.placed_pieces,
    )
    in
    subst AllFilled x.is (rebuild_filled inst.kerf_width donor.stock (insertions row x.cuts) x.bin some_cut x.made, tt)

-- ---- the first population

pub initial_filled : (rows : List BaselineGuillotineHeuristic) (inst : ProblemInstance) (n : SearchNumbers) → All AllFilled (initial_population rows inst n)
unfolding initial_population candidate_from_seed
initial_filled rows inst n = concat_map_all (λ s. Unit {0}) AllFilled _ (λ s u. seeded s (cuts_for_keys inst.cuts s.cut_order)) (initial_seeds rows inst.cuts n) (all_any (initial_seeds rows inst.cuts n))
  where
    seeded : (s : Seed) (o : Option (List CutInstance)) → All AllFilled (to_list (o >>= λ cuts. some (place_cuts inst.kerf_width s.heuristic (new_candidate inst.stock) cuts)))
    seeded s none = tt
    seeded s (some cuts) = (places_filled inst.kerf_width s.heuristic (new_candidate inst.stock) cuts tt, tt)
