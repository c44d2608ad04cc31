-- `project::ProjectFile::stock_body` meets its contract: the stock records of a well-formed file are inside it.
use Prim.Native.Nat.{ℕ}
use native.Mathlib.Omega.{arith}
use mathlib.Core.Path.{◌≡◌, ap, ◌∙◌}
use mathlib.Core.List.{List}
use lib.ListN.{length}
use Rattle.lists.specs.Parts.{part}
use Rattle.lists.proofs.Parts.{length_part}
use Rattle.model.specs.Project.{stock_start, stock_length, project_of}
use Rattle.project.specs.Records.{records}
use Rattle.project.proofs.Shape.{Shape, shape, stock_is}
use Rattle.project.proofs.ProjectFile.stock_body.Goals as goal

pub part-requires : goal.part-requires
part-requires c = let s : Shape c.self.inside.bytes.now = shape c.self.inside.bytes.now c.self.invariant in omega arith

pub returns-clause-bytes : goal.returns-clause-bytes
returns-clause-bytes c =
    c.part.ensures ∙ ap (part c.self.inside.bytes.now stock_start) c.number_4.ensures
    ∙ ap (λ (bytes : List ℕ). part bytes stock_start (stock_length bytes)) c.self.view_is

pub returns-clause-few : goal.returns-clause-few
returns-clause-few c =
    let s : Shape c.self.inside.bytes.now = shape c.self.inside.bytes.now c.self.invariant in
    let long : length c.part.result.now ≡ c.number_4.result = ap length c.part.ensures ∙ length_part c.self.inside.bytes.now stock_start c.number_4.result (omega arith) in
    omega arith

pub returns-clause-read : goal.returns-clause-read
returns-clause-read c =
    ap records (c.part.ensures ∙ ap (part c.self.inside.bytes.now stock_start) c.number_4.ensures)
    ∙ stock_is c.self.inside.bytes.now c.self.invariant
    ∙ ap (λ (bytes : List ℕ). (project_of bytes).stock) c.self.view_is
