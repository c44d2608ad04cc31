-- `optimizer::optimize_cuts` meets its contract: the problem is the file's.
use Prim.Native.Nat.{ℕ}
use mathlib.Core.Path.{ap, ◌∙◌}
use mathlib.Core.List.{List}
use Rattle.model.specs.Types.{effort_of}
use Rattle.model.specs.Project.{project_of}
use Rattle.optimizer.proofs.Ends.{ends_as, searched_as}
use Rattle.optimizer.proofs.FromFile.{is_project, file_sound}
use Rattle.optimizer.proofs.optimize_cuts.Goals as goal

pub new-inst-requires : goal.new-inst-requires
new-inst-requires c =
    file_sound c.args.file.now (c.as_slice.ensures.value ∙ c.stock_instances-stock.ensures) c.requires.2
    (c.kerf_width.ensures ∙ ap (λ (bytes : List ℕ). (project_of bytes).kerf) c.project-project.ensures.value)
    c.project-project.ensures.checked

pub returns : goal.returns
returns c = (
  ends_as
      (searched_as
      (c.new-inst.ensures
      ∙ is_project c.args.file.now (c.as_slice.ensures.value ∙ c.stock_instances-stock.ensures) c.requires.2
      (c.kerf_width.ensures ∙ ap (λ (bytes : List ℕ). (project_of bytes).kerf) c.project-project.ensures.value))
      (c.effort.ensures ∙ ap (λ (bytes : List ℕ). effort_of (project_of bytes).effort) c.project-project.ensures.value))
      c.search_plan.ensures.0,
  c.search_plan.ensures.1,
)
