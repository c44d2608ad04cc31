-- The declared numbers as those of the definition.
use Rattle.std.specs.Prelude.{ℕ, ◌+◌, ◌-◌, List, length, if◌then◌else◌}
use Rattle.model.specs.declared.BaselineGuillotineHeuristic.{BaselineGuillotineHeuristic}
use Rattle.model.specs.Search.{SearchNumbers as Numbers}
use Rattle.search.specs.declared.seeds.SearchNumbers.{SearchNumbers}

unfoldable pub numbers_of : SearchNumbers → Numbers
numbers_of n =
    record { variants = n.variants; shuffles = n.shuffles; generations = n.generations; survivors = n.survivors; first_seed = n.first_seed }

-- how many seeds have the sorted order: one also where there is no row
unfoldable pub sorted_seeds : List BaselineGuillotineHeuristic → SearchNumbers → ℕ
sorted_seeds rows n = if n.variants then 1 + (length rows - 1) else 1
