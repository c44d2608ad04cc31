-- Fitness in f64, each quotient, product and sum rounded once: `fitness` of a bin and of a candidate.
use Prim.Native.Nat.{ℕ, Ordering}
use Rattle.std.specs.Prelude.{List, map, eqb, pos, Float, false, if◌then◌else◌}
use Rattle.std.proofs.Math.Option.{Option, none, some}
use Rattle.std.specs.Float.{fin, binary64}
use Rattle.std.specs.Float.Ieee.{of_int, add, mul, div, lt}
use Rattle.lists.specs.Base.{sum, foldl}
use Rattle.model.specs.Types.{stock_area}
use Rattle.model.specs.Sheet.{GuillotineSheet, placed_area}

-- area_as_fitness_weight
unfoldable pub weight : ℕ → Float
weight area = of_int binary64 (pos area)

abbrev pub positive_zero : Float
positive_zero = fin false 0 (pos 0)

-- the fitness of a plan of no sheets
abbrev pub one : Float
one = fin false 1 (pos 0)

-- fitness of a bin: placed area over board area
unfoldable pub sheet_fitness : GuillotineSheet → Float
sheet_fitness sheet =
    if eqb (stock_area sheet.stock) 0 then positive_zero else div binary64 (weight (placed_area sheet)) (weight (stock_area sheet.stock))

-- used_stock_area of a candidate's bins
unfoldable pub used_stock_area : List GuillotineSheet → ℕ
used_stock_area bins = sum (map (λ b. stock_area b.stock) bins)

unfoldable pub weighted_fitness : GuillotineSheet → Float
weighted_fitness sheet = mul binary64 (sheet_fitness sheet) (weight (stock_area sheet.stock))

-- fitness of a candidate's bins, summed in their order
unfoldable pub fitness : List GuillotineSheet → Option Float
fitness bins =
    if eqb (used_stock_area bins) 0 then none
    else some (div binary64 (foldl (add binary64) positive_zero (map weighted_fitness bins)) (weight (used_stock_area bins)))

-- partial_cmp with Equal where there is none
unfoldable pub compare_float : Float → Float → Ordering
compare_float a b = if lt a b then Ordering.lt else if lt b a then Ordering.gt else Ordering.eq

-- compare_optional_fitness
unfoldable pub compare_fitness : Option Float → Option Float → Ordering
compare_fitness (some a) (some b) = compare_float a b
compare_fitness (some a) none = Ordering.gt
compare_fitness none (some b) = Ordering.lt
compare_fitness none none = Ordering.eq
