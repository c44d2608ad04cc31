-- `plan_text::put_sheets` meets its contract: a text for each sheet, and a full buffer keeps what it has.
use native.Mathlib.Omega.{arith}
use mathlib.Core.Path.{◌∙◌, ap}
use Rattle.words.specs.Appending.{with_bytes}
use Rattle.words.proofs.append.Buffers.{bytes_begin, bytes_next, bytes_stop}
use Rattle.text.specs.BodyLines.{sheet_at}
use Rattle.text.proofs.plan_text.Laws.{sheet_here, sheets_text}
use borrow.Author.Rules.{rules}
use Rattle.text.proofs.plan_text.put_sheets.Goals as goal

pub loop-k-init : goal.loop-k-init
loop-k-init g c = bytes_begin (sheet_at _) _ _

pub returns-then-is_full : goal.returns-then-is_full
returns-then-is_full g c = bytes_stop (sheet_at _) _ _ _ _ c.loop-k.invariant (omega arith) (omega arith) ∙ ap (with_bytes _ _) (sheets_text _ _ c.word-k-end.ensures)

pub loop-k-preserved : goal.loop-k-preserved
loop-k-preserved g c = bytes_next (sheet_at _) _ _ _ c.loop-k.invariant (c.put_sheet.ensures ∙ ap (with_bytes _ _) (sheet_here _ _ _ c.sheet_words.ensures))

pub returns : goal.returns
returns g c = c.loop-k.invariant ∙ ap (with_bytes _ _) (sheets_text _ _ (search rules))
