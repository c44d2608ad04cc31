-- What a line says. The keywords are `kerf N`, `layout guillotine|nested`, `effort fast|balanced|thorough`, `unit mm|inch|foot`,
-- `board ID WIDTH LENGTH [x QUANTITY] [grain width|length]` and `panel ID WIDTH LENGTH [x QUANTITY] [grain width|length] [turn]`.
use Rattle.std.specs.Prelude.{ℕ, ◌-◌, ◌^◌, ◌≡◌, Bool, Option, Some, None, Result, Ok, Err, MatchResult, bytes_eq, List, [], ◌∷◌, if◌then◌else◌}
use Rattle.std.specs.Option.{option_map}
use Rattle.lists.specs.Base.{is_empty}
use Rattle.words.specs.Ascii.{ascii}
use Rattle.typed.specs.declared.line.Reason.{Reason}
use Rattle.typed.specs.declared.line.Setting.{Setting}
use Rattle.typed.specs.declared.line.Kind.{Kind}
use Rattle.typed.specs.declared.line.Keyword.{Keyword}
use Rattle.typed.specs.declared.line.Line.{Line}
use Rattle.typed.specs.Words.{first_word, after_word, decimal_value, code_in}

-- ---- one field, and what is left of the line behind it

-- what the first word says
abbrev pub found : Option ℕ → List ℕ → Option (ℕ × List ℕ)
found o rest = option_map (λ n. (n, after_word rest)) o

abbrev pub number : ℕ → List ℕ → Option (ℕ × List ℕ)
number most rest = found (decimal_value most (first_word rest)) rest

abbrev pub choice : ℕ → List (List ℕ) → List ℕ → Option (ℕ × List ℕ)
choice first table rest = found (code_in first table (first_word rest)) rest

abbrev pub most_number : ℕ
most_number = 2 ^ 32 - 1

abbrev pub most_id : ℕ
most_id = 2 ^ 64 - 1

-- ---- fields that may be left out

-- whether the next word is this one, and what is left of the line once it is passed, if it is
abbrev pub says : List ℕ → List ℕ → Bool
says word rest = bytes_eq (first_word rest) word

abbrev pub passed : List ℕ → List ℕ → List ℕ
passed word rest = if says word rest then after_word rest else rest

-- what follows a keyword; without the keyword what it stands for, and all that is left
abbrev pub behind : Option (ℕ × List ℕ) → (List ℕ → Option (ℕ × List ℕ)) → ℕ → List ℕ → Option (ℕ × List ℕ)
behind None follows without rest = Some (without, rest)
behind (Some k) follows without rest = follows k.1

abbrev pub quantity : List ℕ → Option (ℕ × List ℕ)
quantity rest = behind (choice 0 (ascii "x" ∷ []) rest) (number most_number) 1 rest

abbrev pub grain : List ℕ → Option (ℕ × List ℕ)
grain rest = behind (choice 0 (ascii "grain" ∷ []) rest) (choice 1 (ascii "width" ∷ ascii "length" ∷ [])) 0 rest

abbrev pub turn : List ℕ → Option (ℕ × List ℕ)
turn rest = behind (choice 0 (ascii "turn" ∷ []) rest) (λ r. Some (1, r)) 0 rest

-- a board is finite; a panel may say `turn`
abbrev pub flag_of : Kind → List ℕ → Option (ℕ × List ℕ)
flag_of Kind.Board rest = Some (1, rest)
flag_of Kind.Panel rest = turn rest

-- ---- lines

-- a line goes on with what was found, and is refused for a reason where nothing was
abbrev pub need : Reason → Option (ℕ × List ℕ) → (ℕ → List ℕ → Result Line Reason) → Result Line Reason
need why None next = Err why
need why (Some f) next = next f.0 f.1

-- nothing but a comment may follow
abbrev pub ended : List ℕ → Line → Result Line Reason
ended rest line = if is_empty (first_word rest) then Ok line else Err Reason.Extra

abbrev pub setting_of : Setting → List ℕ → Option (ℕ × List ℕ)
setting_of Setting.Kerf rest = number most_number rest
setting_of Setting.Layout rest = choice 0 (ascii "guillotine" ∷ ascii "nested" ∷ []) rest
setting_of Setting.Effort rest = choice 0 (ascii "fast" ∷ ascii "balanced" ∷ ascii "thorough" ∷ []) rest
setting_of Setting.Unit rest = choice 0 (ascii "mm" ∷ ascii "inch" ∷ ascii "foot" ∷ []) rest

abbrev pub why_of : Setting → Reason
why_of Setting.Kerf = Reason.Number
why_of Setting.Layout = Reason.Choice
why_of Setting.Effort = Reason.Choice
why_of Setting.Unit = Reason.Choice

unfoldable pub setting_line : Setting → List ℕ → Result Line Reason
setting_line setting rest = need (why_of setting) (setting_of setting rest) λ n r. ended r (Line.Set setting n)

unfoldable pub record_line : Kind → List ℕ → Result Line Reason
record_line kind rest =
    need Reason.Number (number most_id rest) λ id r.
    need Reason.Number (number most_number r) λ width s.
    need Reason.Number (number most_number s) λ length t.
    need Reason.Number (quantity t) λ quantity u.
    need Reason.Choice (grain u) λ pattern v.
    need Reason.Choice (flag_of kind v) λ flag w.
    ended w (Line.Record kind (record { id = id; width = width; length = length; quantity = quantity; pattern = pattern; flag = flag }))

unfoldable pub keyword_of : List ℕ → Option Keyword
keyword_of word =
    if bytes_eq word (ascii "kerf") then Some (Keyword.Setting Setting.Kerf)
    else (if bytes_eq word (ascii "layout") then Some (Keyword.Setting Setting.Layout)
    else (if bytes_eq word (ascii "effort") then Some (Keyword.Setting Setting.Effort)
    else (if bytes_eq word (ascii "unit") then Some (Keyword.Setting Setting.Unit)
    else (if bytes_eq word (ascii "board") then Some (Keyword.Record Kind.Board)
    else (if bytes_eq word (ascii "panel") then Some (Keyword.Record Kind.Panel)
    else None)))))

abbrev pub body_of : Option Keyword → List ℕ → Result Line Reason
body_of (Some (Keyword.Setting setting)) rest = setting_line setting rest
body_of (Some (Keyword.Record kind)) rest = record_line kind rest
body_of None rest = Err Reason.Keyword

unfoldable pub line_of : List ℕ → Result Line Reason
line_of line = if is_empty (first_word line) then Ok Line.Blank else body_of (keyword_of (first_word line)) (after_word line)

-- ---- what a reader of a line answers

-- the field's number, and what is left of the line behind it; or that the line has no such field, and what is left behind the word that says none
abbrev pub IsTaken : Option (ℕ × List ℕ) → Reason → List ℕ → Result ℕ Reason → List ℕ → Type 0
IsTaken field why behind result left = MatchResult result (λ n. field ≡ Some (n, left)) (λ e. (e ≡ why) × (field ≡ None) × (left ≡ behind))
