-- What a text says: its lines in order, each of them understood, make a project file; the first that is not is named. A later setting of a
-- kind takes the place of an earlier one. Whether the planner takes the project is the planner's to say.
use Rattle.std.specs.Prelude.{ℕ, ◌+◌, ◌*◌, Option, Some, None, Result, Ok, Err, List, [], ◌∷◌, ◌++◌, eqb, ltb, length, decimal, if◌then◌else◌}
use Rattle.lists.specs.Base.{concat_map}
use Rattle.words.specs.Ascii.{ascii}
use Rattle.model.specs.FileOf.{bytes_of}
use Rattle.typed.specs.declared.line.Kind.{Kind}
use Rattle.typed.specs.declared.line.Line.{Line}
use Rattle.typed.specs.declared.line.Reason.{Reason}
use Rattle.typed.specs.declared.line.Fields.{Fields}
use Rattle.typed.specs.declared.line.Setting.{Setting}
use Rattle.typed.specs.Lines.{line_of}
use Rattle.typed.specs.Messages.{message_of}
use Rattle.typed.specs.declared.BadLine.{BadLine}
use Rattle.typed.specs.declared.Draft.{Draft}

-- ---- the project as far as it was read

-- before the first line: kerf 0, guillotine, fast, millimetre
abbrev pub empty : Draft
empty = record { kerf = 0; layout = 0; effort = 0; unit = 0; boards = []; panels = [] }

abbrev pub with_setting : Draft → Setting → ℕ → Draft
with_setting d Setting.Kerf n = record d { kerf = n }
with_setting d Setting.Layout n = record d { layout = n }
with_setting d Setting.Effort n = record d { effort = n }
with_setting d Setting.Unit n = record d { unit = n }

-- at most 64 records of a kind
abbrev pub pushed : List Fields → Fields → List Fields
pushed records fields = if ltb (length records) 64 then records ++ (fields ∷ []) else records

abbrev pub record_added : Draft → Kind → Fields → Draft
record_added d Kind.Board fields = record d { boards = pushed d.boards fields }
record_added d Kind.Panel fields = record d { panels = pushed d.panels fields }

abbrev pub added : Draft → Result Line Reason → Draft
added d (Ok Line.Blank) = d
added d (Ok (Line.Set setting n)) = with_setting d setting n
added d (Ok (Line.Record kind fields)) = record_added d kind fields
added d (Err why) = d

abbrev pub too_many : ℕ → Option Reason
too_many count = if ltb count 64 then None else Some Reason.TooMany

abbrev pub reason_of : Draft → Result Line Reason → Option Reason
reason_of d (Ok Line.Blank) = None
reason_of d (Ok (Line.Set setting n)) = None
reason_of d (Ok (Line.Record Kind.Board fields)) = too_many (length d.boards)
reason_of d (Ok (Line.Record Kind.Panel fields)) = too_many (length d.panels)
reason_of d (Err why) = Some why

-- what is answered where nothing refuses, and where something does
abbrev pub answer_of : Option Reason → Result (Unit {0}) Reason
answer_of None = Ok tt
answer_of (Some why) = Err why

-- ---- the file

unfoldable pub record_text : Fields → List ℕ
record_text r =
    bytes_of 8 r.id ++ (bytes_of 4 r.width ++ (bytes_of 4 r.length ++ (bytes_of 4 r.quantity
    ++ (bytes_of 1 r.pattern ++ (bytes_of 1 r.flag ++ bytes_of 2 0)))))

unfoldable pub records_text : List Fields → List ℕ
records_text records = concat_map record_text records

-- start and length of settings, stock and cuts
unfoldable pub contents_text : ℕ → ℕ → List ℕ
contents_text boards panels =
    bytes_of 4 24 ++ (bytes_of 4 8 ++ (bytes_of 4 32 ++ (bytes_of 4 (24 * boards) ++ (bytes_of 4 (32 + 24 * boards) ++ bytes_of 4 (24 * panels)))))

unfoldable pub settings_text : ℕ → ℕ → ℕ → ℕ → List ℕ
settings_text kerf layout effort unit = bytes_of 4 kerf ++ (bytes_of 1 layout ++ (bytes_of 1 effort ++ (bytes_of 1 unit ++ bytes_of 1 0)))

unfoldable pub file_text : Draft → List ℕ
file_text d =
    contents_text (length d.boards) (length d.panels) ++ (settings_text d.kerf d.layout d.effort d.unit
    ++ (records_text d.boards ++ records_text d.panels))

-- ---- the text

-- a line begins a list of lines: its first byte
abbrev pub glued : ℕ → List (List ℕ) → List (List ℕ)
glued c [] = (c ∷ []) ∷ []
glued c (l ∷ ls) = (c ∷ l) ∷ ls

-- the lines of a text, without the newlines that end them
unfoldable pub lines_of : List ℕ → List (List ℕ)
lines_of [] = []
lines_of (c ∷ cs) = if eqb c 10 then [] ∷ lines_of cs else glued c (lines_of cs)

unfoldable pub unless : ℕ → Option Reason → Result Draft BadLine → Result Draft BadLine
unless number None meaning = meaning
unless number (Some why) meaning = Err (record { number = number; why = why })

-- the lines from a number on
unfoldable pub meaning_from : ℕ → Draft → List (List ℕ) → Result Draft BadLine
meaning_from number d [] = Ok d
meaning_from number d (l ∷ ls) = unless number (reason_of d (line_of l)) (meaning_from (number + 1) (added d (line_of l)) ls)

-- the project, or the first bad line and its number, counted from one
unfoldable pub meaning : List ℕ → Result Draft BadLine
meaning text = meaning_from 1 empty (lines_of text)

abbrev pub file_of : Result Draft BadLine → Result (List ℕ) BadLine
file_of (Ok d) = Ok (file_text d)
file_of (Err bad) = Err bad

-- what a person reads of a bad line
abbrev pub message_of_line : BadLine → List ℕ
message_of_line bad = ascii "line " ++ (decimal bad.number ++ (ascii ": " ++ message_of bad.why))
