-- `seeds::sorted_seeds` meets its contract.
use Rattle.std.specs.Prelude.{if◌then◌else◌}
use Rattle.std.proofs.Common.{◌≡◌, ◌+◌, ◌-◌, Bool, true, false, List, length, max, sym, ap, ◌∙◌, arith}
use Rattle.model.specs.declared.BaselineGuillotineHeuristic.{BaselineGuillotineHeuristic}
use Rattle.search.specs.declared.seeds.SearchNumbers.{SearchNumbers}
use Rattle.search.specs.Numbers.{sorted_seeds}
use Rattle.search.proofs.seeds.sorted_seeds.Goals as goal

chosen : (rows : List BaselineGuillotineHeuristic) (n : SearchNumbers) (b : Bool) → n.variants ≡ b → (if b then 1 + (length rows - 1) else 1) ≡ sorted_seeds rows n
unfolding sorted_seeds
chosen rows n b e = sym (ap (λ (v : Bool). if v then 1 + (length rows - 1) else 1) e)

pub returns-then-n : goal.returns-then-n
returns-then-n c =
    let most : max (length c.args.rows.now) 1 ≡ 1 + (length c.args.rows.now - 1) = omega arith in
    c.max.ensures ∙ most ∙ chosen c.args.rows.now c.args.n true c.if-n.true

pub returns-else-n : goal.returns-else-n
returns-else-n c = chosen c.args.rows.now c.args.n false c.if-n.false
