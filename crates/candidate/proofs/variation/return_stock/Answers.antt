-- `variation::return_stock` meets its contract.
use mathlib.Core.Path.{◌≡◌, ap, ◌∙◌}
use mathlib.Core.List.{List, ◌++◌}
use Prim.Native.Nat.{ℕ, ◌-◌}
use native.Mathlib.Omega.{arith}
use lib.ListN.{length, take, drop}
use borrow.Author.Rules.{rules}
use Rattle.candidate.proofs.variation.Shifted.{rotated}
use Rattle.candidate.proofs.variation.return_stock.Goals as goal

pub returns : goal.returns
returns c =
    let l : List ℕ = c.args.boards.now in
    let size : length l ≡ 64 = search rules in
    ap (λ (ys : List ℕ). take c.args.index l ++ (ys ++ drop (c.args.count - c.args.index) (drop c.args.index l))) c.rotate_left.ensures.after
    ∙ rotated l c.args.index c.args.count c.requires.0 (omega arith)
