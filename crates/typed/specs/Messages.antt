-- What a person reads of a line that was refused.
use Rattle.std.specs.Prelude.{ℕ, List}
use Rattle.words.specs.Ascii.{ascii}
use Rattle.typed.specs.declared.line.Reason.{Reason}

abbrev pub message_of : Reason → List ℕ
message_of Reason.Keyword = ascii "the first word is not kerf, layout, effort, unit, board or panel"
message_of Reason.Number = ascii "a whole number is missing, or is too large"
message_of Reason.Choice = ascii "the word is not one that this line can have"
message_of Reason.Extra = ascii "there are more words than this line takes"
message_of Reason.TooMany = ascii "there are more than 64 lines of boards, or of panels"
