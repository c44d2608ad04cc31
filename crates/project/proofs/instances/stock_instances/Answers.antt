-- `instances::stock_instances` meets its contract.
use Prim.Native.Nat.{◌≤◌}
use mathlib.Core.Path.{ap, ◌∙◌}
use borrow.Author.Rules.{rules}
use Rattle.lists.specs.Base.{sort_by}
use Rattle.model.specs.Refusal.{total_quantity}
use Rattle.model.specs.Expand.{compare_stock}
use Rattle.project.specs.Records.{records}
use Rattle.project.proofs.instances.Made.{few_records, few_stock, stock_expanded}
use Rattle.project.proofs.instances.stock_instances.Goals as goal

pub instances-raw-requires-whole : goal.instances-raw-requires-whole
instances-raw-requires-whole c =
    let few : total_quantity (records c.stock_body.result.now) ≤ 64 = few_records _ c.stock_body.ensures.read (few_stock c.project.result.now (rw c.project.ensures.value c.project.ensures.checked.passed)) in
    λ κs. search rules

pub returns : goal.returns
returns c = rw (← c.project.ensures.value) (c.sorted.ensures ∙ ap (sort_by compare_stock) (c.as_slice.ensures.value ∙ c.instances-raw.ensures) ∙ stock_expanded _ _ c.stock_body.ensures.read)
