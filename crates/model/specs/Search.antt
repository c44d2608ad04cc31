-- The search: seeds, the first population, generations, survival and the final choice, from `heuristic_variants` to `select_best_valid_candidate`.
use Prim.Native.Nat.{Ordering}
use Rattle.std.specs.Prelude.{ℕ, zero, suc, ◌+◌, Bool, true, false, not, List, [], ◌∷◌, ◌++◌, map, take}
use Rattle.std.proofs.Math.Option.{Option, some}
use Rattle.lists.specs.Base.{◌>>=◌, is_greater, to_list, range, retain, enumerate, find, first_best, sort_by, remove_at, concat_map}
use Rattle.model.specs.Types.{OptimizerEffort, BaselineGuillotineHeuristic, GuillotineRectChoice, GuillotineSplitHeuristic, RotationPreference, StockInstance, CutInstance, InstanceKey, stock_key, cut_key, same_key}
use Rattle.model.specs.Sheet.{GuillotineSheet, rebuild, sheet_keys}
use Rattle.model.specs.Fitness.{sheet_fitness, compare_float}
use Rattle.model.specs.Candidate.{Candidate, new_candidate, contains_key, cuts_for_keys, place_cuts, reinsert_unused_first_fit, compact_worst_bin, is_valid, score, compare_optional_score}
use Rattle.model.specs.TinyPrng.{wrap}
use Rattle.model.specs.Expand.{ProblemInstance, sorted_cut_order, shuffle_cut_order}

-- ---- the numbers of an effort: what is left of PopulationPipelineConfig, whose max_candidates cuts nothing off

pub record SearchNumbers : Type 0 where
  pub variants : Bool
  pub shuffles : ℕ
  pub generations : ℕ
  pub survivors : ℕ
  pub first_seed : ℕ

unfoldable pub search_numbers : OptimizerEffort → SearchNumbers
search_numbers OptimizerEffort.Fast = record { variants = false; shuffles = 0; generations = 0; survivors = 0; first_seed = 0 }
search_numbers OptimizerEffort.Balanced = record { variants = true; shuffles = 8; generations = 1; survivors = 16; first_seed = 0 }
search_numbers OptimizerEffort.Thorough = record { variants = true; shuffles = 24; generations = 4; survivors = 32; first_seed = 0 }

-- ---- seeds

abbrev pub heuristic : GuillotineRectChoice → GuillotineSplitHeuristic → RotationPreference → BaselineGuillotineHeuristic
heuristic c s r = record { rect_choice = c; split = s; rotation = r }

-- heuristic_variants: the source's five rows, in an order that three rows of Plans turn on. The search takes the rows as an argument
unfoldable pub heuristic_variants : List BaselineGuillotineHeuristic
heuristic_variants =
    heuristic GuillotineRectChoice.Area GuillotineSplitHeuristic.Horizontal RotationPreference.PreferUpright
    ∷ heuristic GuillotineRectChoice.LongSide GuillotineSplitHeuristic.LongerAxis RotationPreference.PreferUpright
    ∷ heuristic GuillotineRectChoice.LongSide GuillotineSplitHeuristic.MaximizeArea RotationPreference.PreferUpright
    ∷ heuristic GuillotineRectChoice.ShortSide GuillotineSplitHeuristic.LongerAxis RotationPreference.PreferUpright
    ∷ heuristic GuillotineRectChoice.LongSide GuillotineSplitHeuristic.LongerAxis RotationPreference.PreferRotated
    ∷ []

-- default_heuristic: the first row (that of the source where there is none)
unfoldable pub default_heuristic : List BaselineGuillotineHeuristic → BaselineGuillotineHeuristic
default_heuristic [] = heuristic GuillotineRectChoice.Area GuillotineSplitHeuristic.Horizontal RotationPreference.PreferUpright
default_heuristic (row ∷ rows) = row

-- the variants that initial_candidate_seeds takes: all rows but the first
unfoldable pub other_heuristics : List BaselineGuillotineHeuristic → List BaselineGuillotineHeuristic
other_heuristics [] = []
other_heuristics (row ∷ rows) = rows

-- CandidateSeed, its cut_order as keys
pub record Seed : Type 0 where
  pub cut_order : List InstanceKey
  pub heuristic : BaselineGuillotineHeuristic

-- sorted_first_fit_candidate_seed, and a variant's seed: the sorted order
unfoldable pub sorted_seed : List CutInstance → BaselineGuillotineHeuristic → Seed
sorted_seed cuts h = record { cut_order = sorted_cut_order cuts; heuristic = h }

unfoldable pub variant_seeds : List CutInstance → List BaselineGuillotineHeuristic → Bool → List Seed
variant_seeds cuts rows false = []
variant_seeds cuts rows true = map (sorted_seed cuts) (other_heuristics rows)

-- the seed of shuffle k is the first one plus k, wrapping
unfoldable pub shuffled_seed : List CutInstance → BaselineGuillotineHeuristic → SearchNumbers → ℕ → Seed
shuffled_seed cuts h n k = record { cut_order = shuffle_cut_order cuts (wrap (n.first_seed + k)); heuristic = h }

-- initial_candidate_seeds: the sorted order, the variants, the shuffles
unfoldable pub initial_seeds : List BaselineGuillotineHeuristic → List CutInstance → SearchNumbers → List Seed
initial_seeds rows cuts n =
    sorted_seed cuts (default_heuristic rows)
    ∷ (variant_seeds cuts rows n.variants ++ map (shuffled_seed cuts (default_heuristic rows) n) (range n.shuffles))

-- candidate_from_seed
unfoldable pub candidate_from_seed : ProblemInstance → Seed → Option Candidate
candidate_from_seed inst seed =
    cuts_for_keys inst.cuts seed.cut_order
    >>= λ cuts. some (place_cuts inst.kerf_width seed.heuristic (new_candidate inst.stock) cuts)

-- initial_population
unfoldable pub initial_population : List BaselineGuillotineHeuristic → ProblemInstance → SearchNumbers → List Candidate
initial_population rows inst n = concat_map (λ seed. to_list (candidate_from_seed inst seed)) (initial_seeds rows inst.cuts n)

-- ---- crossover

-- best_donor_bin_index, the bin itself: the first fittest
unfoldable pub best_donor_bin : Candidate → Option GuillotineSheet
best_donor_bin donor = first_best (λ a b. is_greater (compare_float (sheet_fitness a) (sheet_fitness b))) donor.bins

-- full_stock_instances: the sheets' boards first, in an order that a row of Plans turns on
unfoldable pub full_stock : Candidate → List StockInstance
full_stock c = map (λ b. b.stock) c.bins ++ c.available_stock

-- crossover_child_from_donor_bin; the first parent gives the stock
unfoldable pub crossover_child : ProblemInstance → BaselineGuillotineHeuristic → Candidate → GuillotineSheet → Option Candidate
crossover_child inst h left donor =
    cuts_for_keys inst.cuts (sheet_keys donor)
    >>= λ cuts. rebuild inst.kerf_width donor.stock (map (λ c. record { cut = c; heuristic = h }) cuts)
    >>= λ bin. find (λ s. same_key (stock_key s.1) (stock_key donor.stock)) (enumerate (full_stock left))
    >>= λ found. some (record {
      bins = bin ∷ [];
      available_stock = remove_at found.0 (full_stock left);
      unused_cuts = retain (λ c. not (contains_key (cut_key c) (sheet_keys donor))) inst.cuts;
    })

-- the child of two neighbours, if there is one
unfoldable pub child_of : ProblemInstance → BaselineGuillotineHeuristic → Candidate → Candidate → Option Candidate
child_of inst h left right = best_donor_bin right >>= λ donor. crossover_child inst h left donor

-- chunks(2)
unfoldable pub children : ProblemInstance → BaselineGuillotineHeuristic → List Candidate → List Candidate
children inst h [] = []
children inst h (left ∷ []) = []
children inst h (left ∷ right ∷ rest) = to_list (child_of inst h left right) ++ children inst h rest

-- crossover_population
unfoldable pub crossover_population : ProblemInstance → BaselineGuillotineHeuristic → List Candidate → List Candidate
crossover_population inst h population = population ++ children inst h population

-- ---- generations

-- repair_population, compact_population
unfoldable pub repair_population : ProblemInstance → BaselineGuillotineHeuristic → List Candidate → List Candidate
repair_population inst h population = map (reinsert_unused_first_fit inst.kerf_width h) population

unfoldable pub compact_population : ProblemInstance → List Candidate → List Candidate
compact_population inst population = map (compact_worst_bin inst.cuts) population

-- the order of the survivors: the higher score first
abbrev pub best_first : ProblemInstance → Candidate → Candidate → Ordering
best_first inst left right = compare_optional_score (score inst.cuts right) (score inst.cuts left)

-- survival_generation: the valid ones, best first, no more than the survivors (Sentences.survivors_many, a row of Plans)
unfoldable pub survival_generation : ProblemInstance → ℕ → List Candidate → List Candidate
survival_generation inst survivors population = take survivors (sort_by (best_first inst) (retain (is_valid inst.cuts) population))

-- one round of run_population_generations
unfoldable pub generation : ProblemInstance → BaselineGuillotineHeuristic → ℕ → List Candidate → List Candidate
generation inst h survivors population =
    survival_generation inst survivors
    (repair_population inst h (compact_population inst (repair_population inst h (crossover_population inst h population))))

-- run_population_generations
unfoldable pub run_generations : ProblemInstance → BaselineGuillotineHeuristic → ℕ → ℕ → List Candidate → List Candidate
run_generations inst h survivors zero population = population
run_generations inst h survivors (suc n) population = run_generations inst h survivors n (generation inst h survivors population)

-- select_best_valid_candidate: the first best
unfoldable pub select_best_valid : ProblemInstance → List Candidate → Option Candidate
select_best_valid inst population =
    first_best (λ a b. is_greater (compare_optional_score (score inst.cuts a) (score inst.cuts b))) (retain (is_valid inst.cuts) population)

-- optimize_population_pipeline, past its prefilter
unfoldable pub winner : List BaselineGuillotineHeuristic → ProblemInstance → SearchNumbers → Option Candidate
winner rows inst n =
    select_best_valid inst
    (run_generations inst (default_heuristic rows) n.survivors n.generations (initial_population rows inst n))
