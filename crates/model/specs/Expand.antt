-- Instances and their order: `expand_project`, `sorted_cut_order`, `shuffle_cut_order`.
use Prim.Native.Nat.{ℕ, zero, suc, ◌-◌, compare, Ordering}
use Rattle.std.specs.Prelude.{List, map, eqb, length}
use Rattle.lists.specs.Base.{then_with, range, concat_map, sort_by, swap}
use Rattle.model.specs.Types.{StockInstance, CutInstance, InstanceKey, pattern_of, cut_key, no_key}
use Rattle.model.specs.Project.{Record, Project}
use Rattle.model.specs.TinyPrng.{next_state, index_of}

-- ProblemInstance
pub record ProblemInstance : Type 0 where
  pub stock : List StockInstance
  pub cuts : List CutInstance
  pub kerf_width : ℕ

-- compare_stock_instances_for_first_fit, compare_cut_instances_for_first_fit
unfoldable pub compare_stock : StockInstance → StockInstance → Ordering
compare_stock left right =
    then_with (compare right.width left.width) (then_with (compare right.length left.length)
    (then_with (compare left.stock_id right.stock_id) (compare left.instance right.instance)))

unfoldable pub compare_cut : CutInstance → CutInstance → Ordering
compare_cut left right =
    then_with (compare right.width left.width) (then_with (compare right.length left.length)
    (then_with (compare left.cut_id right.cut_id) (compare left.instance right.instance)))

unfoldable pub stock_instances : Record → List StockInstance
stock_instances p =
    map (λ n. record { stock_id = p.id; instance = n; width = p.width; length = p.length; pattern = pattern_of p.pattern }) (range p.quantity)

unfoldable pub cut_instances : Record → List CutInstance
cut_instances p =
    map
    (λ n. record { cut_id = p.id; instance = n; width = p.width; length = p.length; pattern = pattern_of p.pattern; can_rotate = eqb p.flag 1 })
    (range p.quantity)

-- expand_project: stock sorted, cuts in file order
unfoldable pub expand_project : Project → ProblemInstance
expand_project p =
    record { stock = sort_by compare_stock (concat_map stock_instances p.stock); cuts = concat_map cut_instances p.cuts; kerf_width = p.kerf }

-- sorted_cut_order
unfoldable pub sorted_cut_order : List CutInstance → List InstanceKey
sorted_cut_order cuts = map cut_key (sort_by compare_cut cuts)

-- the loop of shuffle_cut_order, from an index down to 1, with the generator's state
unfoldable pub shuffle_from : ℕ → ℕ → List InstanceKey → List InstanceKey
shuffle_from zero state order = order
shuffle_from (suc i) state order =
    let s = next_state state in shuffle_from i s (swap no_key (suc i) (index_of s (suc (suc i))) order)

-- shuffle_cut_order
unfoldable pub shuffle_cut_order : List CutInstance → ℕ → List InstanceKey
shuffle_cut_order cuts seed = let order = sorted_cut_order cuts in shuffle_from (length order - 1) seed order
