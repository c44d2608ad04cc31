-- `seeds::initial_candidate_seed` meets its contract: a seed of the order as it is, or a shuffle.
use Rattle.std.proofs.Common.{◌≡◌, ℕ, ◌+◌, ◌-◌, ◌<◌, ◌≤◌, List, ap, ◌∙◌, arith}
use borrow.Author.Tests.{lt-ltb, le-ltb}
use Rattle.model.specs.declared.BaselineGuillotineHeuristic.{BaselineGuillotineHeuristic}
use Rattle.model.specs.TinyPrng.{wrap}
use Rattle.generator.specs.Shuffle.{shuffled}
use Rattle.search.specs.declared.seeds.CandidateSeed.{CandidateSeed}
use Rattle.search.specs.declared.seeds.SearchNumbers.{SearchNumbers}
use Rattle.search.specs.Numbers.{sorted_seeds}
use Rattle.search.specs.Seeds.{row_at, seed_at}
use Rattle.search.proofs.seeds.initial_candidate_seed.Goals as goal

module _ (order : List ℕ) (rows : List BaselineGuillotineHeuristic) (n : SearchNumbers) (k : ℕ) (items : List ℕ) (h : BaselineGuillotineHeuristic) where
  abbrev seed : CandidateSeed
  seed = record { cut_order = record { items = items }; heuristic = h }

  as_it_is : k < sorted_seeds rows n → items ≡ order → h ≡ row_at rows k → seed ≡ seed_at order rows n k
  unfolding seed_at
  as_it_is l e f = rw (lt-ltb k (sorted_seeds rows n) l) (λ i. record { cut_order = record { items = e i }; heuristic = f i })

  a_shuffle : (first : ℕ) → first ≡ sorted_seeds rows n → first ≤ k → items ≡ shuffled 0 (wrap (n.first_seed + (k - first))) order → h ≡ row_at rows 0 → seed ≡ seed_at order rows n k
  unfolding seed_at
  a_shuffle first s l e f =
      let g : items ≡ shuffled 0 (wrap (n.first_seed + (k - sorted_seeds rows n))) order = e ∙ ap (λ (m : ℕ). shuffled 0 (wrap (n.first_seed + (k - m))) order) s in
      rw (le-ltb k (sorted_seeds rows n) (omega (arith, s, l))) (λ i. record { cut_order = record { items = g i }; heuristic = f i })

pub returns-then-k-first : goal.returns-then-k-first
returns-then-k-first c =
    as_it_is c.args.sorted.now.items c.args.rows.now c.args.n c.args.k _ _ (omega (arith, c.sorted_seeds-first.ensures, c.if-k-first.true)) (c.listed.ensures ∙ c.as_slice.ensures.value) c.heuristic_at.ensures

pub returns : goal.returns
returns c =
    a_shuffle c.args.sorted.now.items c.args.rows.now c.args.n c.args.k _ _ c.sorted_seeds-first.result c.sorted_seeds-first.ensures (omega (arith, c.if-k-first.false)) c.shuffled_order.ensures c.heuristic_at-2.ensures
