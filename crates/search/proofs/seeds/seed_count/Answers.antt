-- `seeds::seed_count` meets its contract.
use Rattle.std.proofs.Common.{ℕ, ◌+◌, ap, ◌∙◌, arith}
use Rattle.search.proofs.seeds.Nth.{seeds_length, sorted_most}
use Rattle.search.proofs.seeds.seed_count.Goals as goal

pub overflow_add-result : goal.overflow_add-result
overflow_add-result c =
    omega (arith, c.sorted_seeds.ensures, sorted_most c.args.rows.now c.args.n c.requires.0, c.requires.1)

pub returns : goal.returns
returns c =
    let n : ℕ = c.args.n.shuffles in (
      λ cuts. ap (λ (k : ℕ). k + n) c.sorted_seeds.ensures ∙ seeds_length c.args.rows.now c.args.n cuts,
      omega (arith, c.sorted_seeds.ensures, sorted_most c.args.rows.now c.args.n c.requires.0, c.requires.1),
    )
