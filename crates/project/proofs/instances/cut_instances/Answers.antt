-- `instances::cut_instances` meets its contract.
use Prim.Native.Nat.{◌≤◌}
use mathlib.Core.Path.{◌∙◌}
use borrow.Author.Rules.{rules}
use Rattle.model.specs.Refusal.{total_quantity}
use Rattle.project.specs.Records.{records}
use Rattle.project.proofs.instances.Made.{few_records, few_cuts, cuts_expanded}
use Rattle.project.proofs.instances.cut_instances.Goals as goal

pub instances-requires-whole : goal.instances-requires-whole
instances-requires-whole c =
    let few : total_quantity (records c.cuts_body.result.now) ≤ 64 = few_records _ c.cuts_body.ensures.read (few_cuts c.project.result.now (rw c.project.ensures.value c.project.ensures.checked.passed)) in
    λ κs. search rules

pub returns : goal.returns
returns c = rw (← c.project.ensures.value) (c.instances.ensures ∙ cuts_expanded _ _ c.cuts_body.ensures.read)
