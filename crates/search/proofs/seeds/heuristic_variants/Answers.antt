-- `seeds::heuristic_variants` meets its contract.
use Rattle.std.proofs.Common.{[], ◌∷◌}
use Rattle.model.specs.Search.{heuristic_variants}
use Rattle.search.proofs.seeds.heuristic_variants.Goals as goal

pub returns : goal.returns
unfolding heuristic_variants
returns c = λ i. c.row.ensures i ∷ c.row-2.ensures i ∷ c.row-3.ensures i ∷ c.row-4.ensures i ∷ c.row-5.ensures i ∷ []
