-- `typed::push_records` meets its contract: the records passed are in the file.
use Rattle.std.proofs.Common.{◌≡◌, take}
use Rattle.words.specs.Appending.{with_bytes}
use Rattle.typed.specs.Project.{records_text}
use Rattle.typed.proofs.push_records.Given as goal

abbrev pub invariant-loop-fields : goal.invariant-loop-fields
invariant-loop-fields l = l.file ≡ with_bytes 3104 l.initial.file (records_text (take l.fields-index l.records))
