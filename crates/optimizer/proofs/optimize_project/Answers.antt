-- `optimizer::optimize_project` meets its contract: an empty plan, or the search and a cleared workspace.
use Prim.Native.Nat.{ℕ}
use mathlib.Core.Path.{sym, ap, ◌∙◌, subst}
use mathlib.Core.List.{List, [], ◌++◌}
use lib.ListN.{length, drop}
use Rattle.model.specs.declared.LayoutKind.{LayoutKind}
use Rattle.model.specs.Types.{layout_of}
use Rattle.model.specs.Project.{project_of}
use Rattle.model.specs.Fitness.{one}
use Rattle.model.specs.Plan.{plan_words}
use Rattle.optimizer.specs.Promise.{Promise}
use Rattle.optimizer.proofs.Ends.{end_empty, end_search, promise_as, none_left, some_left}
use Rattle.optimizer.proofs.optimize_project.Goals as goal

pub returns-then-is_empty : goal.returns-then-is_empty
returns-then-is_empty c =
    let words : LayoutKind → List ℕ = λ l. plan_words l one [] in
    subst (λ (x : List ℕ). Promise c.args.file.now c.args.workspace.now c.args.plan.now 0 c.args.workspace.now x)
    (sym (c.empty_plan.ensures.memory ∙ ap (λ (l : LayoutKind). words l ++ drop (length (words l)) c.args.plan.now)
    (c.layout_kind-layout.ensures ∙ ap (λ (bytes : List ℕ). layout_of (project_of bytes).layout) c.project-project.ensures.value)))
    (end_empty c.args.file.now c.args.workspace.now c.args.plan.now c.requires.0 c.requires.1 c.project-project.ensures.checked.passed
    (none_left c.cut_instances-cuts.ensures (sym c.is_empty.ensures ∙ c.if-is_empty.true)))

pub returns : goal.returns
returns c =
    promise_as c.clear.ensures
    (end_search c.args.file.now c.args.workspace.now c.args.plan.now c.requires.0 c.requires.1 c.project-project.ensures.checked.passed
    (some_left c.cut_instances-cuts.ensures (sym c.is_empty.ensures ∙ c.if-is_empty.false))
    _ _ _ c.optimize_cuts-answer.ensures.0 c.optimize_cuts-answer.ensures.1)
