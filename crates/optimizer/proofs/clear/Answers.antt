-- `optimizer::clear` meets its contract.
use Prim.Native.Nat.{ℕ}
use native.Mathlib.Omega.{arith}
use mathlib.Core.Path.{◌≡◌, ap, ◌∙◌}
use mathlib.Core.List.{List, ◌++◌}
use lib.ListN.{length, drop, take, replicate}
use lib.Seq.{length-take-le}
use Rattle.model.specs.Outcome.{least_workspace, cleared}
use borrow.Author.Rules.{rules}
use Rattle.optimizer.proofs.clear.Goals as goal

pub returns : goal.returns
unfolding cleared
returns c =
    let long : length (take least_workspace c.args.workspace.now) ≡ least_workspace = length-take-le least_workspace c.args.workspace.now (omega arith) in
    ap (λ (l : List ℕ). l ++ drop least_workspace c.args.workspace.now) (c.fill.ensures.after (λ y e. search rules) ∙ ap (λ (n : ℕ). replicate n 0) long)
