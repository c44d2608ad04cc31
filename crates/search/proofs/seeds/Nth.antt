-- The seeds one by one: those of the sorted order, one for each row that is used, and then the shuffles.
use Rattle.std.specs.Prelude.{if◌then◌else◌}
use Rattle.std.proofs.Common.{◌≡◌, ℕ, zero, suc, ◌+◌, ◌-◌, ◌<◌, ◌≤◌, Bool, true, false, List, [], ◌∷◌, ◌++◌, map, length, get_or, sym, refl, ap, ◌∙◌, subst, not-suc-le-zero, arith, length-append, get_or-append-add}
use lib.Dec.{ltb}
use lib.ListN.{get_or-append, get_or-eq_default}
use borrow.Author.Tests.{ltb-true, ltb-false}
use Rattle.lists.specs.Base.{range}
use Rattle.lists.specs.Elements.{Perm, also}
use Rattle.lists.proofs.Sums.{length-map, length_count_from}
use Rattle.lists.proofs.Maps.{get_d_map, map-map}
use Rattle.lists.proofs.Counts.{get_or_count}
use Rattle.model.specs.declared.BaselineGuillotineHeuristic.{BaselineGuillotineHeuristic}
use Rattle.model.specs.declared.CutInstance.{CutInstance}
use Rattle.model.specs.declared.InstanceKey.{InstanceKey}
use Rattle.model.specs.Types.{cut_key}
use Rattle.model.specs.TinyPrng.{wrap}
use Rattle.model.specs.Expand.{ProblemInstance, sorted_cut_order, shuffle_cut_order}
use Rattle.model.specs.Search.{SearchNumbers as Numbers, Seed, default_heuristic, other_heuristics, sorted_seed, variant_seeds, shuffled_seed, initial_seeds}
use Rattle.generator.specs.Shuffle.{shuffled}
use Rattle.generator.proofs.shuffle.Shuffle.{shuffled_perm, shuffled_keys}
use Rattle.project.specs.Problem.{cut_in}
use Rattle.search.specs.declared.seeds.SearchNumbers.{SearchNumbers}
use Rattle.search.specs.Numbers.{numbers_of, sorted_seeds}
use Rattle.search.specs.Seeds.{seed_in, InOrder, row_at, seed_at, no_seed, IsSeed}

-- ---- the seeds in two parts

-- the rows whose seed has the sorted order: the default one, and with variants the others
abbrev used : List BaselineGuillotineHeuristic → Bool → List BaselineGuillotineHeuristic
used rows true = default_heuristic rows ∷ other_heuristics rows
used rows false = default_heuristic rows ∷ []

two_parts : (rows : List BaselineGuillotineHeuristic) (cuts : List CutInstance) (n : Numbers)
    → initial_seeds rows cuts n ≡ map (sorted_seed cuts) (used rows n.variants) ++ map (shuffled_seed cuts (default_heuristic rows) n) (range n.shuffles)
unfolding initial_seeds variant_seeds
two_parts rows cuts n = go n.variants (map (shuffled_seed cuts (default_heuristic rows) n) (range n.shuffles))
  where
    go : (b : Bool) (shuffles : List Seed) → sorted_seed cuts (default_heuristic rows) ∷ (variant_seeds cuts rows b ++ shuffles) ≡ map (sorted_seed cuts) (used rows b) ++ shuffles
    go true shuffles = refl
    go false shuffles = refl

pub first_row : (rows : List BaselineGuillotineHeuristic) → default_heuristic rows ≡ row_at rows 0
unfolding default_heuristic
first_row [] = refl
first_row (row ∷ rows) = refl

used_at : (rows : List BaselineGuillotineHeuristic) (b : Bool) (k : ℕ) → k < length (used rows b) → get_or (used rows b) k (default_heuristic []) ≡ row_at rows k
unfolding default_heuristic other_heuristics
used_at [] true zero l = refl
used_at [] true (suc k) l = refl
used_at (row ∷ rows) true k l = refl
used_at rows false zero l = first_row rows
used_at rows false (suc k) l = absurd (not-suc-le-zero {n = k} (omega (arith, l)))

used_length : (rows : List BaselineGuillotineHeuristic) (b : Bool) → length (used rows b) ≡ (if b then 1 + (length rows - 1) else 1)
unfolding other_heuristics
used_length [] true = refl
used_length (row ∷ rows) true = omega arith
used_length rows false = refl

-- the default behind the last row
pub no_row : (rows : List BaselineGuillotineHeuristic) (k : ℕ) → length rows ≤ k → row_at rows k ≡ default_heuristic []
no_row rows k l = get_or-eq_default rows _ l

module _ (rows : List BaselineGuillotineHeuristic) (n : SearchNumbers) where
  used_sorted : length (used rows n.variants) ≡ sorted_seeds rows n
  unfolding sorted_seeds
  used_sorted = used_length rows n.variants

  pub seeds_length : (cuts : List CutInstance) → sorted_seeds rows n + n.shuffles ≡ length (initial_seeds rows cuts (numbers_of n))
  unfolding numbers_of
  seeds_length cuts =
      let m : Numbers = numbers_of n in
      let sorted : List Seed = map (sorted_seed cuts) (used rows n.variants) in
      let shuffles : List Seed = map (shuffled_seed cuts (default_heuristic rows) m) (range n.shuffles) in
      sym (ap length (two_parts rows cuts m) ∙ omega (
        arith,
        length-append sorted shuffles,
        length-map (sorted_seed cuts) (used rows n.variants),
        used_sorted,
        length-map (shuffled_seed cuts (default_heuristic rows) m) (range n.shuffles),
        length_count_from 0 n.shuffles,
      ))

  pub sorted_most : length rows ≤ 8 → sorted_seeds rows n ≤ 8
  unfolding sorted_seeds
  sorted_most few = go n.variants
    where
      go : (b : Bool) → (if b then 1 + (length rows - 1) else 1) ≤ 8
      go true = omega arith
      go false = omega arith

  module _ (cuts : List CutInstance) (k : ℕ) where
    -- a seed of the sorted order
    nth_sorted : k < sorted_seeds rows n → get_or (initial_seeds rows cuts (numbers_of n)) k no_seed ≡ sorted_seed cuts (row_at rows k)
    unfolding numbers_of
    nth_sorted l =
        let m : Numbers = numbers_of n in
        let sorted : List Seed = map (sorted_seed cuts) (used rows n.variants) in
        ap (λ (s : List Seed). get_or s k no_seed) (two_parts rows cuts m)
        ∙ get_or-append sorted _ no_seed k (omega (arith, length-map (sorted_seed cuts) (used rows n.variants), used_sorted))
        ∙ get_d_map (sorted_seed cuts) (used rows n.variants) k no_seed (default_heuristic []) (omega (arith, used_sorted))
        ∙ ap (sorted_seed cuts) (used_at rows n.variants k (omega (arith, used_sorted)))

    -- a shuffle
    nth_shuffled : sorted_seeds rows n ≤ k → k < sorted_seeds rows n + n.shuffles
        → get_or (initial_seeds rows cuts (numbers_of n)) k no_seed ≡ shuffled_seed cuts (row_at rows 0) (numbers_of n) (k - sorted_seeds rows n)
    unfolding numbers_of
    nth_shuffled f l =
        let m : Numbers = numbers_of n in
        let j : ℕ = k - sorted_seeds rows n in
        let sorted : List Seed = map (sorted_seed cuts) (used rows n.variants) in
        let shuffle : ℕ → Seed = shuffled_seed cuts (default_heuristic rows) m in
        let at : k ≡ length sorted + j = omega (arith, length-map (sorted_seed cuts) (used rows n.variants), used_sorted) in
        let number : get_or (range n.shuffles) j 0 ≡ j = get_or_count 0 n.shuffles j (omega arith) ∙ omega arith in
        ap (λ (s : List Seed). get_or s k no_seed) (two_parts rows cuts m)
        ∙ ap (λ (i : ℕ). get_or (sorted ++ map shuffle (range n.shuffles)) i no_seed) at
        ∙ get_or-append-add sorted (map shuffle (range n.shuffles)) j no_seed
        ∙ get_d_map shuffle (range n.shuffles) j no_seed 0 (omega (arith, length_count_from 0 n.shuffles))
        ∙ ap shuffle number
        ∙ ap (λ (row : BaselineGuillotineHeuristic). shuffled_seed cuts row m j) (first_row rows)

  -- ---- as seeds of places

  module _ (inst : ProblemInstance) (sorted : List ℕ) (o : InOrder inst sorted) (k : ℕ) (h : BaselineGuillotineHeuristic) where
    keys : map (λ p. cut_key (cut_in inst p)) sorted ≡ sorted_cut_order inst.cuts
    unfolding sorted_cut_order
    keys = sym (map-map cut_key (cut_in inst) sorted) ∙ ap (map cut_key) o.sorted

    is_sorted : k < sorted_seeds rows n → h ≡ row_at rows k → IsSeed rows inst (numbers_of n) k (record { cut_order = record { items = sorted }; heuristic = h })
    unfolding seed_in sorted_seed
    is_sorted l e = record { is = made ∙ sym (nth_sorted inst.cuts k l); once = o.once }
      where
        made : seed_in inst (record { cut_order = record { items = sorted }; heuristic = h }) ≡ sorted_seed inst.cuts (row_at rows k)
        made = λ i. record { cut_order = keys i; heuristic = e i }

    is_shuffled : (seed : ℕ) (order : List ℕ) → sorted_seeds rows n ≤ k → k < sorted_seeds rows n + n.shuffles → seed ≡ wrap (n.first_seed + (k - sorted_seeds rows n)) → h ≡ row_at rows 0
        → order ≡ shuffled 0 seed sorted
        → IsSeed rows inst (numbers_of n) k (record { cut_order = record { items = order }; heuristic = h })
    unfolding seed_in shuffled_seed shuffle_cut_order numbers_of
    is_shuffled seed order f l s g e = record { is = made ∙ sym (nth_shuffled inst.cuts k f l); once = subst (λ (p : List ℕ). Perm p (range (length inst.cuts))) (sym e) perm }
      where
        perm : Perm (shuffled 0 seed sorted) (range (length inst.cuts))
        perm = also (shuffled_perm 0 seed sorted) o.once

        made : seed_in inst (record { cut_order = record { items = order }; heuristic = h }) ≡ shuffled_seed inst.cuts (row_at rows 0) (numbers_of n) (k - sorted_seeds rows n)
        made =
            let key : ℕ → InstanceKey = λ p. cut_key (cut_in inst p) in
            let shuffle : map key order ≡ shuffle_cut_order inst.cuts (wrap (n.first_seed + (k - sorted_seeds rows n))) =
            ap (map key) e ∙ shuffled_keys key seed sorted (sorted_cut_order inst.cuts) keys ∙ ap (shuffle_cut_order inst.cuts) s
            in
            λ i. record { cut_order = shuffle i; heuristic = g i }

  -- of the cuts' sorted order
  pub seed_at_is : (inst : ProblemInstance) (sorted : List ℕ) → InOrder inst sorted → (k : ℕ) → k < sorted_seeds rows n + n.shuffles → IsSeed rows inst (numbers_of n) k (seed_at sorted rows n k)
  unfolding seed_at
  seed_at_is inst sorted o k l = go (ltb k (sorted_seeds rows n)) refl
    where
      seed : ℕ
      seed = wrap (n.first_seed + (k - sorted_seeds rows n))

      go : (b : Bool) → ltb k (sorted_seeds rows n) ≡ b → IsSeed rows inst (numbers_of n) k (if b then record { cut_order = record { items = sorted }; heuristic = row_at rows k }
          else record { cut_order = record { items = shuffled 0 seed sorted }; heuristic = row_at rows 0 })
      go true e = is_sorted inst sorted o k (row_at rows k) (ltb-true k (sorted_seeds rows n) e) refl
      go false e = is_shuffled inst sorted o k (row_at rows 0) seed (shuffled 0 seed sorted) (ltb-false k (sorted_seeds rows n) e) l refl refl refl
