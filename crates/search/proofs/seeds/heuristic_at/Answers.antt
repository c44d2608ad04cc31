-- `seeds::heuristic_at` meets its contract.
use Rattle.std.proofs.Common.{sym, ◌∙◌, arith}
use Rattle.model.specs.Search.{default_heuristic}
use Rattle.lists.proofs.Arrays.{get_d_any}
use Rattle.search.proofs.seeds.Nth.{no_row}
use Rattle.search.proofs.seeds.heuristic_at.Goals as goal

pub returns-then-k-rows : goal.returns-then-k-rows
returns-then-k-rows c = get_d_any c.args.rows.now c.args.k _ _ c.if-k-rows.true

pub returns : goal.returns
unfolding default_heuristic
returns c = c.row.ensures ∙ sym (no_row c.args.rows.now c.args.k (omega (arith, c.if-k-rows.false)))
