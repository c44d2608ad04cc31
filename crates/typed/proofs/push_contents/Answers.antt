-- `typed::push_contents` meets its contract: the fields one after the other.
use Rattle.words.proofs.append.Buffers.{with_bytes-append}
use Rattle.typed.specs.Project.{contents_text}
use Rattle.typed.proofs.push_contents.Goals as goal

pub returns : goal.returns
unfolding contents_text
returns c = simp with_bytes-append (cc)
