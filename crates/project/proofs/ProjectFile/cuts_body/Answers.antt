-- `project::ProjectFile::cuts_body` meets its contract: the cut records of a well-formed file are inside it.
use Prim.Native.Nat.{ℕ}
use native.Mathlib.Omega.{arith}
use mathlib.Core.Path.{◌≡◌, ap, ap₂, ◌∙◌}
use mathlib.Core.List.{List}
use lib.ListN.{length}
use Rattle.lists.specs.Parts.{part}
use Rattle.lists.proofs.Parts.{length_part}
use Rattle.model.specs.Project.{project_of, cuts_start, cuts_length}
use Rattle.project.specs.Records.{records}
use Rattle.project.proofs.Shape.{Shape, shape, cuts_is}
use Rattle.project.proofs.ProjectFile.cuts_body.Goals as goal

pub part-requires : goal.part-requires
part-requires c = let s : Shape c.self.inside.bytes.now = shape c.self.inside.bytes.now c.self.invariant in omega arith

pub returns-clause-bytes : goal.returns-clause-bytes
returns-clause-bytes c =
    let s : Shape c.self.inside.bytes.now = shape c.self.inside.bytes.now c.self.invariant in
    c.part.ensures ∙ ap₂ (part c.self.inside.bytes.now) (c.number_4.ensures ∙ s.cuts_follow) c.number_4-2.ensures
    ∙ ap (λ (bytes : List ℕ). part bytes (cuts_start bytes) (cuts_length bytes)) c.self.view_is

pub returns-clause-few : goal.returns-clause-few
returns-clause-few c =
    let s : Shape c.self.inside.bytes.now = shape c.self.inside.bytes.now c.self.invariant in
    let long : length c.part.result.now ≡ c.number_4-2.result = ap length c.part.ensures ∙ length_part c.self.inside.bytes.now c.number_4.result c.number_4-2.result (omega arith) in
    omega arith

pub returns-clause-read : goal.returns-clause-read
returns-clause-read c =
    let s : Shape c.self.inside.bytes.now = shape c.self.inside.bytes.now c.self.invariant in
    ap records (c.part.ensures ∙ ap₂ (part c.self.inside.bytes.now) (c.number_4.ensures ∙ s.cuts_follow) c.number_4-2.ensures)
    ∙ cuts_is c.self.inside.bytes.now c.self.invariant
    ∙ ap (λ (bytes : List ℕ). (project_of bytes).cuts) c.self.view_is
