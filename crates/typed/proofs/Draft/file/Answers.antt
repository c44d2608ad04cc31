-- `typed::Draft::file` meets its contract: the parts one after the other, with room for them all.
use Rattle.std.proofs.Common.{◌≡◌, ◌∙◌, []}
use Rattle.words.specs.Appending.{with_bytes}
use Rattle.words.proofs.append.Buffers.{with_bytes-append}
use Rattle.typed.specs.Project.{file_text}
use Rattle.typed.proofs.File.{file_fits, well_formed_lem}
use Rattle.typed.proofs.Draft.file.Goals as goal

put : goal.returns-clause-bytes
unfolding file_text
put c =
    let all : c.push_records-2.new.file ≡ with_bytes 3104 [] (file_text c.args.self.now) = simp with_bytes-append (cc) in
    all ∙ file_fits c.args.self.now c.as_slice-boards.ensures.within c.as_slice-panels.ensures.within

pub returns-clause-bytes : goal.returns-clause-bytes
returns-clause-bytes c = put c

pub returns-clause-formed : goal.returns-clause-formed
returns-clause-formed c = rw (put c) (well_formed_lem c.args.self.now c.as_slice-boards.ensures.within c.as_slice-panels.ensures.within)
