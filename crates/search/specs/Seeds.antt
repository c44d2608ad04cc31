-- A seed whose cut order is places in the catalogue, as the definition's seed of keys.
use Rattle.std.specs.Prelude.{◌≡◌, ℕ, ◌+◌, ◌-◌, ltb, List, [], map, length, slice_index_or, if◌then◌else◌}
use Rattle.lists.specs.Base.{range, sort_by}
use Rattle.lists.specs.Elements.{Perm}
use Rattle.model.specs.declared.BaselineGuillotineHeuristic.{BaselineGuillotineHeuristic}
use Rattle.search.specs.declared.seeds.CandidateSeed.{CandidateSeed}
use Rattle.search.specs.declared.seeds.SearchNumbers.{SearchNumbers}
use Rattle.search.specs.Numbers.{sorted_seeds}
use Rattle.model.specs.Types.{cut_key}
use Rattle.model.specs.TinyPrng.{wrap}
use Rattle.model.specs.Expand.{ProblemInstance, compare_cut}
use Rattle.model.specs.Search.{SearchNumbers as Numbers, Seed, default_heuristic, initial_seeds}
use Rattle.generator.specs.Shuffle.{shuffled}
use Rattle.project.specs.Problem.{cut_in}

unfoldable pub seed_in : ProblemInstance → CandidateSeed → Seed
seed_in inst s = record { cut_order = map (λ k. cut_key (cut_in inst k)) s.cut_order.items; heuristic = s.heuristic }

-- sorted_cut_order by places: each once, and their cuts sorted
pub record InOrder (inst : ProblemInstance) (order : List ℕ) : Type 0 where
  pub once : Perm order (range (length inst.cuts))
  pub sorted : map (cut_in inst) order ≡ sort_by compare_cut inst.cuts

-- row k, and the source's default where there is none
abbrev pub row_at : List BaselineGuillotineHeuristic → ℕ → BaselineGuillotineHeuristic
row_at rows k = slice_index_or rows k (default_heuristic [])

-- seed k by places, of any order: first the order itself, with one row after the other, then shuffles of it, with the first row
unfoldable pub seed_at : List ℕ → List BaselineGuillotineHeuristic → SearchNumbers → ℕ → CandidateSeed
seed_at order rows n k =
    let first = sorted_seeds rows n in
    if ltb k first then record { cut_order = record { items = order }; heuristic = row_at rows k }
    else record { cut_order = record { items = shuffled 0 (wrap (n.first_seed + (k - first))) order }; heuristic = row_at rows 0 }

-- no seed, for a number past the last
abbrev pub no_seed : Seed
no_seed = record { cut_order = []; heuristic = default_heuristic [] }

-- seed k of `initial_candidate_seeds`, with each cut once
pub record IsSeed (rows : List BaselineGuillotineHeuristic) (inst : ProblemInstance) (n : Numbers) (k : ℕ) (s : CandidateSeed) : Type 0 where
  pub is : seed_in inst s ≡ slice_index_or (initial_seeds rows inst.cuts n) k no_seed
  pub once : Perm s.cut_order.items (range (length inst.cuts))
