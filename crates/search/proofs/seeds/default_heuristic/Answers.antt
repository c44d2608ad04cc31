-- `seeds::default_heuristic` meets its contract.
use Rattle.std.proofs.Common.{sym, ◌∙◌}
use Rattle.search.proofs.seeds.Nth.{first_row}
use Rattle.search.proofs.seeds.default_heuristic.Goals as goal

pub returns : goal.returns
returns c = c.heuristic_at.ensures ∙ sym (first_row c.args.rows.now)
