-- `stored::load` meets its contract.
use mathlib.Core.Path.{◌≡◌, ap, ◌∙◌}
use mathlib.Core.List.{List}
use Prim.Native.Nat.{ℕ, ◌+◌, ◌-◌}
use native.Mathlib.Omega.{arith}
use lib.ListN.{get_or, take, drop}
use Rattle.search.specs.Slots.{unpacked}
use Rattle.lists.specs.Parts.{part}
use Rattle.lists.proofs.Parts.{part_span}
use Rattle.search.proofs.stored.load.Goals as goal

pub returns : goal.returns
unfolding unpacked
returns c =
    let block : List ℕ = c.args.block.now in
    let placed : ℕ = get_or block 1 0 in
    let left : 66 + c.args.cuts - (66 + placed) ≡ c.args.cuts - placed = omega arith in
    let first : c.of.result.items ≡ part block 66 placed = c.of.ensures ∙ part_span block 66 placed in
    let last : c.of-2.result.items ≡ part block (66 + placed) (c.args.cuts - placed) = c.of-2.ensures ∙ ap (λ (n : ℕ). take n (drop (66 + placed) block)) left in
    λ i. record { boards = c.copy_from_slice.ensures.after i; sheets = get_or block 0 0; insertions = record { items = first i }; unused = record { items = last i } }
