-- `line::read_line` meets its contract.
use Rattle.std.proofs.Common.{◌≡◌, sym, ap, ◌∙◌, true, false, Some, None, rules}
use Rattle.lists.specs.Base.{is_empty}
use Rattle.typed.specs.declared.line.Keyword.{Keyword}
use Rattle.typed.specs.Words.{first_word}
use Rattle.typed.specs.Lines.{line_of, keyword_of}
use Rattle.typed.proofs.line.Values.{is_empty_none, is_empty_some}
use Rattle.typed.proofs.line.read_line.Goals as goal

pub returns-then-is_empty : goal.returns-then-is_empty
unfolding line_of
returns-then-is_empty c =
    let none : is_empty (first_word c.args.line.now) ≡ true = rw (← c.next_word-word.ensures.word) (is_empty_none _ (search rules)) in
    rw none

pub returns-in-Some-Setting : goal.returns-in-Some-Setting
unfolding line_of
returns-in-Some-Setting c =
    let some : is_empty (first_word c.args.line.now) ≡ false = rw (← c.next_word-word.ensures.word) (is_empty_some _ (search rules)) in
    let keyword : keyword_of (first_word c.args.line.now) ≡ Some (Keyword.Setting c.in-Some-Setting.setting) = rw (← c.next_word-word.ensures.word) (sym c.keyword_of.ensures ∙ c.in-Some-Setting.is ∙ ap Some c.in-Some-Setting.field-0-is) in
    rw (c.setting_line.ensures, c.next_word-word.ensures.left, some, keyword)

pub returns-in-Some-Record : goal.returns-in-Some-Record
unfolding line_of
returns-in-Some-Record c =
    let some : is_empty (first_word c.args.line.now) ≡ false = rw (← c.next_word-word.ensures.word) (is_empty_some _ (search rules)) in
    let keyword : keyword_of (first_word c.args.line.now) ≡ Some (Keyword.Record c.in-Some-Record.kind) = rw (← c.next_word-word.ensures.word) (sym c.keyword_of.ensures ∙ c.in-Some-Record.is ∙ ap Some c.in-Some-Record.field-0-is) in
    rw (c.record_line.ensures, c.next_word-word.ensures.left, some, keyword)

pub returns-in-None : goal.returns-in-None
unfolding line_of
returns-in-None c =
    let some : is_empty (first_word c.args.line.now) ≡ false = rw (← c.next_word-word.ensures.word) (is_empty_some _ (search rules)) in
    let keyword : keyword_of (first_word c.args.line.now) ≡ None = rw (← c.next_word-word.ensures.word) (sym c.keyword_of.ensures ∙ c.in-None.is) in
    rw (some, keyword)
