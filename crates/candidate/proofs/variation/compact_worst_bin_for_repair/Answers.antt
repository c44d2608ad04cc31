-- `variation::compact_worst_bin_for_repair` meets its contract.
use Prim.Native.Nat.{ℕ, ◌≤◌, ◌<◌}
use native.Mathlib.Omega.{arith}
use mathlib.Core.Path.{◌≡◌, ap, ◌∙◌}
use lib.ListN.{length}
use Rattle.candidate.specs.declared.Candidate.{Candidate as Words}
use Rattle.candidate.specs.Stands.{candidate_in}
use Rattle.candidate.specs.OnSheets.{IsWorst}
use Rattle.candidate.specs.Compact.{put_back, apart}
use Rattle.candidate.proofs.evaluation.BestIndex.{worst_index}
use Rattle.candidate.proofs.variation.Sheets.{index_known, areas_count}
use Rattle.candidate.proofs.variation.Compacting.{compacted_by, compacted_one}
use Rattle.candidate.proofs.variation.compact_worst_bin_for_repair.Goals as goal
use Rattle.candidate.proofs.variation.compact_worst_bin_for_repair.Goals.{After-worst_bin_index-index}

-- the index of the least fit sheet
worst : (c : After-worst_bin_index-index) → IsWorst (candidate_in c.args.inst.now c.args.c.now).bins c.worst_bin_index-index.result
worst c = worst_index c.as_slice.result.now (candidate_in c.args.inst.now c.args.c.now).bins (c.as_slice.ensures.value ∙ c.sheet_areas-areas.ensures) c.worst_bin_index-index.result c.worst_bin_index-index.ensures

known : (c : After-worst_bin_index-index) → (c.worst_bin_index-index.result < length c.stock-stock.result.now) × (length c.stock-stock.result.now ≤ 64)
known c =
    let count : length c.stock-stock.result.now ≡ length c.args.inst.now.stock = ap length c.stock-stock.ensures.value in (
      omega (arith, count, index_known c.args.inst.now c.args.c.now c.requires c.worst_bin_index-index.result (worst c).0),
      omega (arith, count, c.stock-stock.ensures.sound.ranged.few_boards),
    )

pub returns-then-c-lt2 : goal.returns-then-c-lt2
returns-then-c-lt2 c = compacted_one c.args.inst.now c.args.c.now c.requires c.if-c-lt2.true

pub worst_bin_index-index-requires : goal.worst_bin_index-index-requires
worst_bin_index-index-requires c = omega (arith, c.if-c-lt2.false, areas_count c.args.inst.now c.args.c.now c.requires _ (c.as_slice.ensures.value ∙ c.sheet_areas-areas.ensures))

pub bounds-c-index : goal.bounds-c-index
bounds-c-index c = omega (arith, known (goal.at.bounds-c-index c).After-worst_bin_index-index)

pub offset_bounds-c-index : goal.offset_bounds-c-index
offset_bounds-c-index c = omega (arith, known (goal.at.offset_bounds-c-index c).After-worst_bin_index-index)

pub take_apart-requires : goal.take_apart-requires
take_apart-requires c = omega (arith, c.requires.counts, c.stock-stock.ensures.sound.ranged.few_panels)

pub return_stock-requires : goal.return_stock-requires
return_stock-requires c = known (goal.at.return_stock-requires c).After-worst_bin_index-index

pub overflow_sub-c : goal.overflow_sub-c
unfolding apart
overflow_sub-c c = omega (arith, ap (λ (k : Words). k.sheets) c.take_apart.ensures)

pub returns : goal.returns
returns c =
    let count = ap length c.stock-stock.ensures.value in
    compacted_by c.args.inst.now c.stock-stock.ensures.sound.admitted c.stock-stock.ensures.sound.ranged c.args.c.now c.requires c.worst_bin_index-index.result
    (worst (goal.at.returns c).After-worst_bin_index-index) c.if-c-lt2.false c.take_apart.new.c c.take_apart.ensures
    c.return_stock.new.boards (c.return_stock.ensures ∙ ap (λ (n : ℕ). put_back c.take_apart.new.c.boards n c.worst_bin_index-index.result) count)
