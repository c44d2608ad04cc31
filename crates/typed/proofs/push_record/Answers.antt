-- `typed::push_record` meets its contract: the fields one after the other.
use Rattle.words.proofs.append.Buffers.{with_bytes-append}
use Rattle.typed.specs.Project.{record_text}
use Rattle.typed.proofs.push_record.Goals as goal

pub returns : goal.returns
unfolding record_text
returns c = simp with_bytes-append (cc)
