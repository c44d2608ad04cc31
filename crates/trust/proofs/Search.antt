-- Every candidate of every population keeps each board and each panel exactly once, so the winner does.
use Prim.Native.Nat.{ℕ, zero, suc, ◌+◌, ◌-◌, ◌%◌, ◌≤◌, ◌<◌}
use native.Mathlib.Nat.{mod-lt, zero-lt-suc}
use native.Mathlib.Omega.{arith}
use mathlib.Core.Path.{◌≡◌, refl, ap, ◌∙◌, subst}
use mathlib.Core.Bool.{Bool, true, false, not}
use mathlib.Core.List.{List, [], ◌++◌, map, append-nil, Memᴰ}
use mathlib.Core.Option.{some}
use lib.Dec.{T}
use lib.ListN.{length}
use Rattle.lists.specs.Base.{is_some, is_empty, to_list, range, swap, concat_map}
use Rattle.lists.specs.Elements.{Perm, also, All, Pairs}
use Rattle.model.specs.declared.BaselineGuillotineHeuristic.{BaselineGuillotineHeuristic}
use Rattle.model.specs.declared.CutInstance.{CutInstance}
use Rattle.model.specs.declared.InstanceKey.{InstanceKey}
use Rattle.model.specs.Types.{cut_key, no_key}
use Rattle.model.specs.TinyPrng.{wrap, next_state, value_of, index_of}
use Rattle.model.specs.Sheet.{GuillotineSheet, Insertion, new_sheet, try_insert}
use Rattle.model.specs.Candidate.{Candidate, new_candidate, cuts_for_keys, reinsert_unused_first_fit, compact_worst_bin, has_duplicate_keys, placed_cut_keys, is_valid}
use Rattle.model.specs.Expand.{ProblemInstance, compare_cut, sorted_cut_order, shuffle_from, shuffle_cut_order}
use Rattle.model.specs.Search.{SearchNumbers, Seed, default_heuristic, other_heuristics, sorted_seed, variant_seeds, shuffled_seed, initial_seeds, candidate_from_seed, initial_population, best_donor_bin, child_of, run_generations, winner}
use Rattle.trust.specs.Proper.{Kept, boards_of, placed_cuts}
use Rattle.trust.specs.Admitted.{DifferBoards, Distinct}
use Rattle.lists.proofs.Perm.{perm_refl, perm_sym, all_map, all_append, mem_perm, length_perm, map_perm, swap_perm, sort_by_perm, perm_map_inv, all_self}
use Rattle.lists.proofs.Every.{all_any, map_all, concat_map_all}
use Rattle.trust.proofs.Lists.{FirstOf, all_first, empty_nil, first_of_three}
use Rattle.trust.proofs.Generations.{generations_all, best_all}
use Rattle.trust.proofs.Placing.{first_best_all}
use Rattle.trust.proofs.Candidate.{places_kept, reinsert_kept}
use Rattle.trust.proofs.Keys.{cuts_for_keys_known}
use Rattle.trust.proofs.Compact.{compact_kept}
use Rattle.trust.proofs.Crossover.{child_all, child_kept}

-- ---- orders of the cuts

pub sorted_perm : (cuts : List CutInstance) → Perm (sorted_cut_order cuts) (map cut_key cuts)
unfolding sorted_cut_order
sorted_perm cuts = map_perm cut_key (sort_by_perm compare_cut cuts)

shuffle_from_perm : (i state : ℕ) (order : List InstanceKey) → i ≤ length order - 1 → Perm (shuffle_from i state order) order
unfolding shuffle_from index_of
shuffle_from_perm zero state order h = perm_refl order
shuffle_from_perm (suc i) state order h =
    let s = next_state state in
    let j = value_of s % suc (suc i) in
    let small : j < suc (suc i) = mod-lt (value_of s) (zero-lt-suc (suc i)) in
    let one : Perm (swap no_key (suc i) j order) order = swap_perm no_key order (suc i) j (omega arith) (omega arith) in
    also (shuffle_from_perm i s (swap no_key (suc i) j order) (omega (arith, length_perm one))) one

pub shuffled_perm : (cuts : List CutInstance) (seed : ℕ) → Perm (shuffle_cut_order cuts seed) (map cut_key cuts)
unfolding shuffle_cut_order
shuffled_perm cuts seed = also (shuffle_from_perm (length (sorted_cut_order cuts) - 1) seed (sorted_cut_order cuts) (omega arith)) (sorted_perm cuts)

-- an order of the keys gives the cuts in that order
pub record Ordered (cuts : List CutInstance) (keys : List InstanceKey) : Type 0 where
  pub in_order : List CutInstance
  pub found : cuts_for_keys cuts keys ≡ some in_order
  pub perm : Perm in_order cuts

pub ordered : (cuts : List CutInstance) (keys : List InstanceKey) → Distinct cuts → Perm keys (map cut_key cuts) → Ordered cuts keys
ordered cuts keys d p =
    let m = perm_map_inv cut_key (perm_sym p) cuts refl in
    record {
      in_order = m.order;
      found =
          ap (cuts_for_keys cuts) m.mapped
          ∙ cuts_for_keys_known cuts m.order d
          (all_map (λ x. Memᴰ x m.order) (λ x. Memᴰ x cuts) (λ x k. mem_perm m.perm k) m.order (all_self m.order));
      perm = m.perm;
    }

-- the winner: every board at most once, every panel exactly once, every sheet as P says
pub record Won (P : GuillotineSheet → Type 0) (inst : ProblemInstance) (c : Candidate) : Type 0 where
  pub stock : Perm (boards_of c.bins ++ c.available_stock) inst.stock
  pub panels : Perm (placed_cuts c.bins) inst.cuts
  pub sheets : All P c.bins

-- ---- populations

module _ (P : GuillotineSheet → Type 0) (rows : List BaselineGuillotineHeuristic) (inst : ProblemInstance) (distinct : Distinct inst.cuts) (boards : Pairs DifferBoards inst.stock)
    (fresh : All (λ s. P (new_sheet s)) inst.stock)
    (keeps : (i : Insertion) (s t : GuillotineSheet) → Memᴰ i.cut inst.cuts → try_insert inst.kerf_width s i ≡ some t → P s → P t) where
  abbrev pub Good : Candidate → Type 0
  Good c = Kept P inst.stock inst.cuts [] c

  abbrev row : BaselineGuillotineHeuristic
  row = default_heuristic rows

  -- seeds
  seed_good : (s : Seed) → Perm s.cut_order (map cut_key inst.cuts) → All Good (to_list (candidate_from_seed inst s))
  unfolding candidate_from_seed concat_map
  seed_good s p =
      let o = ordered inst.cuts s.cut_order distinct p in
      rw o.found (
        places_kept P inst.kerf_width inst.stock inst.cuts fresh distinct keeps s.heuristic (new_candidate inst.stock) o.in_order
            (record { boards = perm_refl inst.stock; panels = o.perm; sheets = tt }),
        tt,
      )

  abbrev InOrder : Seed → Type 0
  InOrder s = Perm s.cut_order (map cut_key inst.cuts)

  variants_ordered : (b : Bool) → All InOrder (variant_seeds inst.cuts rows b)
  unfolding variant_seeds sorted_seed
  variants_ordered true = map_all (λ h. Unit {0}) InOrder _ (λ h u. sorted_perm inst.cuts) (other_heuristics rows) (all_any (other_heuristics rows))
  variants_ordered false = tt

  seeds_ordered : (n : SearchNumbers) → All InOrder (initial_seeds rows inst.cuts n)
  unfolding initial_seeds sorted_seed shuffled_seed
  seeds_ordered n = (
    sorted_perm inst.cuts,
    all_append InOrder (variant_seeds inst.cuts rows n.variants) (map (shuffled_seed inst.cuts row n) (range n.shuffles)) (variants_ordered n.variants)
        (map_all (λ k. Unit {0}) InOrder (shuffled_seed inst.cuts row n) (λ k u. shuffled_perm inst.cuts (wrap (n.first_seed + k))) (range n.shuffles) (all_any (range n.shuffles))),
  )

  pub initial_good : (n : SearchNumbers) → All Good (initial_population rows inst n)
  unfolding initial_population
  initial_good n = concat_map_all InOrder Good _ seed_good (initial_seeds rows inst.cuts n) (seeds_ordered n)

  -- a generation
  pub child_good : (left right : Candidate) → Good left → Good right → All Good (to_list (child_of inst row left right))
  unfolding best_donor_bin
  child_good left right l r =
      child_all inst row left Good right λ donor child e x.
      let f = first_best_all (FirstOf right.bins) _ right.bins donor (all_first right.bins) e in
      child_kept P inst row distinct boards fresh keeps left right donor f.rest child f.first l r x

  repair_good : (c : Candidate) → Good c → Good (reinsert_unused_first_fit inst.kerf_width row c)
  repair_good c k = reinsert_kept P inst.kerf_width inst.stock inst.cuts fresh distinct keeps row c k

  compact_good : (c : Candidate) → Good c → Good (compact_worst_bin inst.cuts c)
  compact_good c k = compact_kept P inst.kerf_width inst.stock inst.cuts distinct c k

  valid_won : (c : Candidate) → Good c → T (is_valid inst.cuts c) → Won P inst c
  unfolding is_valid
  valid_won c k t =
      let none_left : c.unused_cuts ≡ [] = empty_nil c.unused_cuts (first_of_three (is_empty c.unused_cuts) (not (has_duplicate_keys (placed_cut_keys c.bins))) (is_some (cuts_for_keys inst.cuts (placed_cut_keys c.bins))) t) in
      record {
        stock = k.boards;
        panels = subst (λ u. Perm u inst.cuts) (ap (λ (u : List CutInstance). placed_cuts c.bins ++ (u ++ [])) none_left ∙ append-nil (placed_cuts c.bins)) k.panels;
        sheets = k.sheets;
      }

  pub winner_won : (n : SearchNumbers) (c : Candidate) → winner rows inst n ≡ some c → Won P inst c
  unfolding winner
  winner_won n c e =
      let population = run_generations inst row n.survivors n.generations (initial_population rows inst n) in
      let all = generations_all Good inst row child_good repair_good compact_good n.survivors n.generations (initial_population rows inst n) (initial_good n) in
      let h = best_all Good inst row child_good repair_good compact_good population c all e in
      valid_won c h.0 h.1
