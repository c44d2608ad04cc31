-- `project::record_at` meets its contract.
use Rattle.model.specs.Project.{read_record}
use Rattle.project.proofs.record_at.Goals as goal

pub returns : goal.returns
unfolding read_record
returns c = rw (c.number_2.ensures, c.number_1-2.ensures, c.number_1.ensures, c.number_4-3.ensures, c.number_4-2.ensures, c.number_4.ensures, c.number_8.ensures)
