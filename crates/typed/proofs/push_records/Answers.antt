-- `typed::push_records` meets its contract: the records passed are in the file.
use Rattle.std.proofs.Common.{ap, ◌∙◌}
use Rattle.words.specs.Appending.{with_bytes}
use Rattle.typed.specs.Project.{records_text}
use Rattle.typed.proofs.File.{rows_none, rows_next}
use Rattle.typed.proofs.push_records.Goals as goal
use lib.Seq.{take_all}

pub loop-fields-init : goal.loop-fields-init
loop-fields-init c = rows_none 3104 c.args.file.now c.args.records.now

pub loop-fields-preserved : goal.loop-fields-preserved
loop-fields-preserved c = rw (c.push_record.ensures, c.loop-fields.invariant) (rows_next 3104 c.args.file.now c.args.records.now c.loop-fields.fields-index _ c.loop-fields-test.true)

pub returns : goal.returns
returns c = c.loop-fields.invariant ∙ ap (λ records. with_bytes 3104 c.args.file.now (records_text records)) (take_all c.loop-fields.fields-index c.args.records.now c.loop-fields-test.false)
