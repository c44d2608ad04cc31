-- Fitness over the search's candidates: areas are whole numbers that an f64 holds, a sheet's fitness and a candidate's are numbers above 0 and at
-- most 1, so no NaN, and a candidate with a sheet has a fitness.
use Prim.Native.Nat.{ℕ, zero, suc, ◌+◌, ◌*◌, ◌^◌, ◌≤◌, ◌<◌}
use native.Mathlib.Nat.{le_trans, le_of_eq, mul-one, zero-mul, mul-pos}
use native.Mathlib.Omega.{arith}
use mathlib.Core.Path.{◌≡◌, refl, sym, ap, subst}
use mathlib.Core.Bool.{false, not}
use mathlib.Core.List.{List, [], ◌∷◌, map}
use mathlib.Core.Option.{some}
use lib.Dec.{T, lit≤, le→leb}
use lib.IntN.{pos}
use lib.Pow.{pow_pos}
use lib.ListN.{length}
use lib.Ieee.{Float, binary64, low, add, div, of_int, in_float, lt, le, is_nan}
use lib.Ieee.Back.{round_whole}
use lib.Ieee.Exact.{HasValue}
use lib.Ieee.Order.{le_of_values}
use borrow.Author.Tests.{ne_eqb}
use Rattle.lists.specs.Base.{is_empty, is_some, sum, foldl}
use Rattle.lists.specs.Elements.{All}
use Rattle.model.specs.declared.BaselineGuillotineHeuristic.{BaselineGuillotineHeuristic}
use Rattle.model.specs.Types.{area, stock_area}
use Rattle.model.specs.Sheet.{GuillotineSheet, PlacedPiece, placed_area}
use Rattle.model.specs.Fitness.{weight, positive_zero, one, sheet_fitness, used_stock_area, weighted_fitness, fitness}
use Rattle.model.specs.Candidate.{Candidate, has_duplicate_keys, placed_cut_keys, cuts_for_keys, is_valid}
use Rattle.model.specs.Expand.{ProblemInstance}
use Rattle.model.specs.Search.{SearchNumbers, winner}
use Rattle.lists.proofs.Perm.{all_both, all_left}
use Rattle.trust.specs.Limits.{most_area, most_areas}
use Rattle.trust.specs.Sound.{Positive, piece_rects}
use Rattle.trust.specs.Admitted.{Admitted, Ranged}
use Rattle.trust.specs.Proper.{Bounded, CandidateProper, Filled, SheetProper}
use Rattle.trust.proofs.Lists.{empty_nil, first_of_three}
use Rattle.trust.proofs.Bounded.{board_area_most, placed_most}
use Rattle.trust.proofs.Proper.{winner_proper}
use Rattle.trust.proofs.CandidateSize.{piece_count, pieces_kept, candidate_counts}
use Rattle.trust.proofs.Rounding.{has_number, lt_of_values}
use Rattle.trust.proofs.Fractions.{Upto, Between, between_upto, part_upto, part, times, plus, quotient}

-- ---- areas as floats

-- the whole number itself
pub weight_has : (n : ℕ) → n ≤ 2 ^ 53 → HasValue (weight n) false n 1
unfolding weight of_int
weight_has n h = round_whole binary64 false n h

-- which is what a cast asks for
pub weight_exact : (n : ℕ) → n ≤ 2 ^ 53 → T (in_float binary64 (pos n))
unfolding in_float
weight_exact n h = le→leb n (2 ^ 53) h

-- ---- what the bounds mean

-- a number above 0 and at most 1
pub record Share (x : Float) : Type 0 where
  pub number : T (not (is_nan x))
  pub above : T (lt positive_zero x)
  pub most : T (le x one)

some_units : (d v p : ℕ) → 0 < d → d ≤ v * p → 0 < v
some_units d zero p h k = absurd (none_left d h (le_trans k (le_of_eq (zero-mul p))))
  where
    none_left : (n : ℕ) → 0 < n → n ≤ 0 → ⊥
    none_left n a b = omega arith
some_units d (suc v) p h k = omega arith

pub share : (x : Float) (k : ℕ) → Between binary64 x k 1 → Share x
share x k b =
    let D = 2 ^ low binary64 in
    let positive : 0 < b.v = some_units D b.v (2 ^ k) (pow_pos (low binary64)) b.least in
    record {
      number = has_number x b.v D b.has;
      above = lt_of_values positive_zero x 0 1 b.v D (refl, refl) b.has (above_zero D b.v positive);
      most = le_of_values x one b.v D 1 1 (pow_pos (low binary64)) (lit≤ tt) b.has (refl, refl) (le_trans (le_of_eq (mul-one b.v)) b.most);
    }
  where
    above_zero : (d v : ℕ) → 0 < v → 0 * d < v * 1
    above_zero d v h = omega (arith, zero-mul d, mul-one v)

-- ---- a sheet

pub record Weighed (s : GuillotineSheet) : Type 0 where
  pub some : 0 < placed_area s
  pub placed : placed_area s ≤ stock_area s.stock
  pub area : stock_area s.stock ≤ most_area

real_area : (s : GuillotineSheet) → 0 < stock_area s.stock → sheet_fitness s ≡ div binary64 (weight (placed_area s)) (weight (stock_area s.stock))
unfolding sheet_fitness
real_area s h = rw (ne_eqb (stock_area s.stock) 0 (λ e. omega arith))

pub sheet_upto : (s : GuillotineSheet) → 0 < stock_area s.stock → placed_area s ≤ stock_area s.stock → stock_area s.stock ≤ most_area → Upto binary64 (sheet_fitness s) 1
sheet_upto s h p a =
    subst (λ (x : Float). Upto binary64 x 1) (sym (real_area s h))
    (part_upto binary64 (weight (placed_area s)) (weight (stock_area s.stock)) (placed_area s) (stock_area s.stock)
    (weight_has (placed_area s) (omega arith)) (weight_has (stock_area s.stock) (omega arith)) h p)

-- at least 1 / 2 ^ 40
pub sheet_between : (s : GuillotineSheet) → Weighed s → Between binary64 (sheet_fitness s) 40 1
sheet_between s w =
    subst (λ (x : Float). Between binary64 x 40 1) (sym (real_area s (omega (arith, w.some, w.placed))))
    (part binary64 (weight (placed_area s)) (weight (stock_area s.stock)) (placed_area s) (stock_area s.stock) 40
    (weight_has (placed_area s) (omega (arith, w.placed, w.area))) (weight_has (stock_area s.stock) (omega (arith, w.area))) w.some w.placed (omega (arith, w.area)) (lit≤ tt))

pub weighted_between : (s : GuillotineSheet) → Weighed s → Between binary64 (weighted_fitness s) 40 (stock_area s.stock)
unfolding weighted_fitness
weighted_between s w =
    times binary64 (sheet_fitness s) (weight (stock_area s.stock)) (stock_area s.stock) 40 (sheet_between s w) (weight_has (stock_area s.stock) (omega (arith, w.area)))
    (omega (arith, w.some, w.placed)) (omega (arith, w.area)) (lit≤ tt)

-- ---- a candidate

-- the sum goes on from a value that is at least 1 / 2 ^ 40
sum_between : (x : Float) (m : ℕ) → Between binary64 x 40 m → (bins : List GuillotineSheet) → All Weighed bins → m + used_stock_area bins ≤ most_areas
    → Between binary64 (foldl (add binary64) x (map weighted_fitness bins)) 40 (m + used_stock_area bins)
unfolding foldl used_stock_area sum
sum_between x m h [] w l = subst (λ (n : ℕ). Between binary64 x 40 n) (omega arith) h
sum_between x m h (b ∷ bins) w l =
    let a = stock_area b.stock in
    let next = plus binary64 x (weighted_fitness b) 40 m a (between_upto h) (weighted_between b w.0) (omega arith) (lit≤ tt) in
    subst (λ (n : ℕ). Between binary64 (foldl (add binary64) (add binary64 x (weighted_fitness b)) (map weighted_fitness bins)) 40 n) (omega arith)
    (sum_between (add binary64 x (weighted_fitness b)) (m + a) next bins w.1 (omega arith))

pub record FitnessOf (bins : List GuillotineSheet) : Type 0 where
  pub value : Float
  pub is : fitness bins ≡ some value
  pub between : Between binary64 value 86 1
  pub share : Share value

pub fitness_between : (bins : List GuillotineSheet) → 0 < length bins → All Weighed bins → used_stock_area bins ≤ most_areas → FitnessOf bins
unfolding fitness used_stock_area sum foldl
fitness_between [] n w l = absurd (omega arith)
fitness_between (b ∷ bins) n w l =
    let used = used_stock_area (b ∷ bins) in
    let zero_upto : Upto binary64 positive_zero 0 = record { v = 0; has = (refl, refl); most = lit≤ tt } in
    let first = plus binary64 positive_zero (weighted_fitness b) 40 0 (stock_area b.stock) zero_upto (weighted_between b w.0) (omega (arith, w.0.area)) (lit≤ tt) in
    let total : Between binary64 (foldl (add binary64) positive_zero (map weighted_fitness (b ∷ bins))) 40 used =
    subst (λ (k : ℕ). Between binary64 (foldl (add binary64) positive_zero (map weighted_fitness (b ∷ bins))) 40 k) (omega arith)
    (sum_between (add binary64 positive_zero (weighted_fitness b)) (0 + stock_area b.stock) first bins w.1 (omega arith))
    in
    let positive : 0 < used = omega (arith, w.0.some, w.0.placed) in
    let all = foldl (add binary64) positive_zero (map weighted_fitness (b ∷ bins)) in
    let q : Between binary64 (div binary64 all (weight used)) 86 1 =
    quotient binary64 all (weight used) 40 46 used total (weight_has used (omega arith)) positive (omega arith) (lit≤ tt)
    in
    record { value = div binary64 all (weight used); is = rw (ne_eqb used 0 (λ e. omega arith)); between = q; share = share (div binary64 all (weight used)) 86 q }

-- ---- of the search

-- the placed area of a sheet with a piece
some_placed : (ps : List PlacedPiece) → 0 < length ps → All Positive (piece_rects ps) → 0 < sum (map (λ p. area p.fit.rect) ps)
unfolding sum
some_placed [] n h = absurd (omega arith)
some_placed (p ∷ ps) n h = omega (arith, mul-pos h.0.wide h.0.long)

pub sheet_weighed : (kerf : ℕ) (s : GuillotineSheet) → Bounded kerf s → Filled s → Weighed s
unfolding placed_area
sheet_weighed kerf s h n =
    record {
      some = some_placed s.placed_pieces n (all_left Positive (piece_rects s.placed_pieces) s.free_rects h.layout.positive);
      placed = placed_most kerf s h.layout;
      area = board_area_most s.stock h.board;
    }

pub proper_fitness : (inst : ProblemInstance) (c : Candidate) → Ranged inst → CandidateProper inst c → 0 < length c.bins → FitnessOf c.bins
proper_fitness inst c r h n =
    fitness_between c.bins n
    (all_both (SheetProper inst.kerf_width) Filled Weighed (λ s p f. sheet_weighed inst.kerf_width s p.bounded f) c.bins h.kept.sheets h.filled)
    (candidate_counts inst r [] c h).area

-- a valid candidate has every panel on a sheet, so a sheet if there is a panel
pub valid_sheets : (inst : ProblemInstance) (c : Candidate) → CandidateProper inst c → T (is_valid inst.cuts c) → 0 < length inst.cuts → 0 < length c.bins
unfolding is_valid
valid_sheets inst c h t n =
    let none_left = empty_nil c.unused_cuts (first_of_three (is_empty c.unused_cuts) (not (has_duplicate_keys (placed_cut_keys c.bins))) (is_some (cuts_for_keys inst.cuts (placed_cut_keys c.bins))) t) in
    some_bin c.bins (omega (arith, pieces_kept _ inst.stock inst.cuts [] c h.kept, ap length none_left))
  where
    some_bin : (bins : List GuillotineSheet) → 0 < piece_count bins → 0 < length bins
    some_bin [] k = unfold piece_count sum in k
    some_bin (b ∷ bins) k = omega arith

pub winner_fitness : (rows : List BaselineGuillotineHeuristic) (inst : ProblemInstance) → Admitted inst → Ranged inst → 0 < length inst.cuts → (n : SearchNumbers) (c : Candidate)
    → winner rows inst n ≡ some c → FitnessOf c.bins
winner_fitness rows inst a r k n c e =
    let w = winner_proper rows inst a r n c e in
    proper_fitness inst c r w.0 (valid_sheets inst c w.0 w.1 k)
