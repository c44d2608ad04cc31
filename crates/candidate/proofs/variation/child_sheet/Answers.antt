-- `variation::child_sheet` meets its contract.
use Prim.Native.Nat.{ℕ}
use native.Mathlib.Omega.{arith}
use mathlib.Core.Path.{◌≡◌, sym, ap, ◌∙◌}
use mathlib.Core.List.{List}
use lib.ListN.{length}
use Rattle.std.specs.Prelude.{Some, is_some}
use Rattle.candidate.specs.Moves.{moved_up}
use Rattle.candidate.specs.Donated.{place_among, sheet_of}
use Rattle.candidate.proofs.variation.Pushes.{position_is}
use borrow.Author.Rules.{rules}
use Rattle.candidate.proofs.variation.child_sheet.Goals as goal

pub unwrap-from-requires : goal.unwrap-from-requires
unwrap-from-requires c =
    let boards : List ℕ = c.args.left.now.boards in
    let size : length boards ≡ 64 = search rules in
    ap is_some (c.place_among.ensures ∙ position_is c.args.board boards (omega (arith, c.requires)))

pub move_board-requires : goal.move_board-requires
move_board-requires c =
    let boards : List ℕ = c.args.left.now.boards in
    let size : length boards ≡ 64 = search rules in
    let found : Some c.unwrap-from.result ≡ Some (place_among c.args.board boards) = sym c.unwrap-from.ensures ∙ c.place_among.ensures ∙ position_is c.args.board boards (omega (arith, c.requires)) in
    let from : c.unwrap-from.result ≡ place_among c.args.board boards = cc in
    (omega arith, omega (arith, from, c.requires))

pub returns : goal.returns
unfolding sheet_of
returns c =
    let left : List ℕ = c.args.left.now.boards in
    let size : length left ≡ 64 = search rules in
    let found : Some c.unwrap-from.result ≡ Some (place_among c.args.board left) = sym c.unwrap-from.ensures ∙ c.place_among.ensures ∙ position_is c.args.board left (omega (arith, c.requires)) in
    let from : c.unwrap-from.result ≡ place_among c.args.board left = cc in
    let boards = c.move_board.ensures ∙ ap (λ (n : ℕ). moved_up left n 0) from in
    λ i. record { boards = boards i; sheets = 1; insertions = c.args.made.now.insertions; unused = c.args.made.now.unused }
