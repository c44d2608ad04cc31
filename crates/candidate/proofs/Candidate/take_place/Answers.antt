-- `Candidate::take_place` meets its contract.
use Prim.Native.Nat.{ℕ, ◌≤◌, ◌<◌}
use native.Mathlib.Omega.{arith}
use mathlib.Core.Path.{◌≡◌, sym, ap, ap₂, ◌∙◌}
use mathlib.Core.List.{List}
use Rattle.candidate.specs.declared.Candidate.{Candidate as Words}
use Rattle.candidate.specs.Moves.{moved_up, with_insertion}
use Rattle.candidate.proofs.Ends.{end_unused, end_sheet, end_new, sheet_made}
use Rattle.candidate.proofs.Candidate.take_place.Goals as goal

pub returns-then-stock-j : goal.returns-then-stock-j
returns-then-stock-j c = c.push_unused.ensures ∙ sym (end_unused c.args.stock c.args.self.now c.args.j c.args.cut c.args.h c.if-stock-j.true)

pub returns-then-self-j : goal.returns-then-self-j
unfolding with_insertion
returns-then-self-j c =
    let same : c.push_insertion.new.self.sheets ≡ c.args.self.now.sheets = ap (λ (k : Words). k.sheets) c.push_insertion.ensures in
    let boards : c.push_insertion.new.self.boards ≡ c.args.self.now.boards = ap (λ (k : Words). k.boards) c.push_insertion.ensures in
    let moved = c.move_board.ensures ∙ ap₂ {C = List ℕ} (λ bs n. moved_up bs c.args.j n) boards same in
    let bare : c.args.self.now.sheets ≤ c.args.j = omega (arith, same, c.if-self-j.true) in
    sheet_made c.args.stock c.args.self.now c.args.j c.args.cut c.args.h _ _ _ c.push_insertion.ensures moved
    ∙ sym (end_new c.args.stock c.args.self.now c.args.j c.args.cut c.args.h (omega arith) bare)

pub returns-else-self-j : goal.returns-else-self-j
unfolding with_insertion
returns-else-self-j c =
    let same : c.push_insertion.new.self.sheets ≡ c.args.self.now.sheets = ap (λ (k : Words). k.sheets) c.push_insertion.ensures in
    let here : c.args.j < c.args.self.now.sheets = omega (arith, same, c.if-self-j.false) in
    c.push_insertion.ensures ∙ sym (end_sheet c.args.stock c.args.self.now c.args.j c.args.cut c.args.h (omega arith) here)
