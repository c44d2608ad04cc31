-- The loop's invariant: the areas of the sheets so far.
use native.Mathlib.Omega.{arith}
use Prim.Native.Nat.{ℕ, ◌<◌}
use mathlib.Core.Path.{◌≡◌, ap, ◌∙◌}
use mathlib.Core.List.{List, []}
use lib.ListN.{length, get_or}
use Rattle.model.specs.declared.StockInstance.{StockInstance}
use Rattle.model.specs.Types.{stock_area}
use Rattle.project.specs.Problem.{no_stock, board_in}
use Rattle.candidate.proofs.evaluation.Sheets.{map_turn, sheet_known, words_known, words_area, sheets_areas}
use Rattle.candidate.proofs.evaluation.sheet_areas.Goals as goal

pub placed_on_boards-placed-requires : goal.placed_on_boards-placed-requires
placed_on_boards-placed-requires c =
    let known = c.stock-stock.ensures.sound.ranged in
    rw c.as_slice.ensures.value (
      words_known c.args.inst.now [] c.args.c.now known c.requires,
      omega (arith, words_area c.args.inst.now [] c.args.c.now known c.requires),
    )

pub bounds-stock-board : goal.bounds-stock-board
bounds-stock-board c =
    let known = sheet_known c.args.inst.now [] c.args.c.now c.stock-stock.ensures.sound.ranged c.requires c.loop-k.k c.loop-k-test.true in
    omega (arith, known, ap length c.stock-stock.ensures.value)

pub bounds-placed-board : goal.bounds-placed-board
bounds-placed-board c =
    let known = sheet_known c.args.inst.now [] c.args.c.now c.stock-stock.ensures.sound.ranged c.requires c.loop-k.k c.loop-k-test.true in
    omega (arith, known, c.stock-stock.ensures.sound.ranged.few_boards)

pub loop-k-preserved : goal.loop-k-preserved
unfolding board_in
loop-k-preserved c =
    let board : ℕ = get_or c.args.c.now.boards c.loop-k.k 0 in
    let area : c.area.result ≡ stock_area (board_in c.args.inst.now board) = c.area.ensures ∙ ap (λ (l : List StockInstance). stock_area (get_or l board no_stock)) c.stock-stock.ensures.value in
    let h : c.loop-k.k < length c.args.c.now.boards = omega (arith, c.loop-k.invariant.0, c.loop-k.invariant.1) in (
      c.loop-k.invariant.0,
      c.loop-k.invariant.1,
      c.push.ensures.items ∙ map_turn (λ b. record { placed = get_or c.placed_on_boards-placed.result b 0; board = stock_area (board_in c.args.inst.now b) })
          c.args.c.now.boards c.loop-k.areas.items c.loop-k.k 0 _ h c.loop-k.invariant.2
          (λ i. record { placed = get_or c.placed_on_boards-placed.result board 0; board = area i }),
    )

pub returns : goal.returns
returns c =
    let all : c.loop-k.k ≡ c.args.c.now.sheets = omega arith in
    sheets_areas c.args.inst.now [] c.args.c.now c.stock-stock.ensures.sound.ranged c.requires c.loop-k.areas.items
    c.placed_on_boards-placed.result (rw (← c.as_slice.ensures.value) c.placed_on_boards-placed.ensures) (rw (← all) c.loop-k.invariant.2)
