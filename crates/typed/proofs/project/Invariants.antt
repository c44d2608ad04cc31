-- `typed::project` meets its contract: the lines that are left mean what the text means.
use Rattle.std.proofs.Common.{◌≡◌, ◌+◌, length, drop}
use Rattle.std.specs.List.{slice_split}
use Rattle.typed.specs.Project.{empty, meaning_from}
use Rattle.typed.proofs.Texts.{ends_line}
use Rattle.typed.proofs.project.Given as goal

abbrev pub invariant-loop-index : goal.invariant-loop-index
invariant-loop-index l =
    meaning_from (length l.yielded + 1) l.draft (drop (length l.yielded) (slice_split ends_line l.text)) ≡ meaning_from 1 empty (slice_split ends_line l.text)
