-- `typed::push_settings` meets its contract: the fields one after the other.
use Rattle.words.proofs.append.Buffers.{with_bytes-append}
use Rattle.typed.specs.Project.{settings_text}
use Rattle.typed.proofs.push_settings.Goals as goal

pub returns : goal.returns
unfolding settings_text
returns c = simp with_bytes-append (cc)
