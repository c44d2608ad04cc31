-- What a plan is trusted for, proved of the winner of the definition: boards and panels once, own size, legal grain, inside the board,
-- a kerf apart, and each sheet the one that its making builds.
use Prim.Native.Nat.{ℕ, ◌<◌}
use mathlib.Core.Path.{◌≡◌}
use mathlib.Core.List.{List}
use mathlib.Core.Option.{some}
use Rattle.model.specs.declared.BaselineGuillotineHeuristic.{BaselineGuillotineHeuristic}
use Rattle.model.specs.declared.StockInstance.{StockInstance}
use Rattle.model.specs.Sheet.{GuillotineSheet, Insertion, new_sheet, insert_at, try_insert}
use Rattle.model.specs.Candidate.{Candidate}
use Rattle.model.specs.Expand.{ProblemInstance}
use Rattle.model.specs.Search.{SearchNumbers, winner}
use Rattle.trust.specs.Admitted.{Admitted}
use Rattle.trust.specs.Sound.{Legal}
use Rattle.trust.specs.Proper.{SheetOk}
use Rattle.trust.specs.WellCut.{PartsOk}
use Rattle.lists.specs.Elements.{All}
use Rattle.lists.proofs.Perm.{all_append, all_map, in_all}
use Rattle.trust.proofs.Placing.{at_place}
use Rattle.trust.proofs.Sheet.{new_sound, try_insert_sound, new_rebuilt, try_insert_rebuilt}
use Rattle.trust.proofs.Parts.{new_parts, insert_parts}
use Rattle.trust.proofs.Search.{Won, winner_won}

pub new_ok : (kerf : ℕ) (stock : StockInstance) → 0 < stock.width → 0 < stock.length → SheetOk kerf (new_sheet stock)
unfolding new_sheet
new_ok kerf stock w l = record { layout = new_sound kerf stock w l; rebuilt = new_rebuilt kerf stock; legal = tt; parts = new_parts kerf stock }

pub try_insert_legal : (kerf : ℕ) (s : GuillotineSheet) (i : Insertion) (t : GuillotineSheet) → try_insert kerf s i ≡ some t
    → All (Legal s.stock.pattern) s.placed_pieces → All (Legal t.stock.pattern) t.placed_pieces
unfolding insert_at
try_insert_legal kerf s i t e h =
    at_place (λ u. All (Legal u.stock.pattern) u.placed_pieces) kerf s i t
    (λ p g. all_append (Legal s.stock.pattern) s.placed_pieces _ h (record { lies = g.fits.lies; grain = g.fits.grain }, tt)) e

pub try_insert_parts : (kerf : ℕ) (s : GuillotineSheet) (i : Insertion) (t : GuillotineSheet) → 0 < i.cut.width → 0 < i.cut.length
    → try_insert kerf s i ≡ some t → PartsOk kerf s → PartsOk kerf t
try_insert_parts kerf s i t w l e h = at_place (PartsOk kerf) kerf s i t (λ p g. insert_parts kerf s i p w l g h) e

pub winner_ok : (rows : List BaselineGuillotineHeuristic) (inst : ProblemInstance) → Admitted inst → (n : SearchNumbers) (c : Candidate) → winner rows inst n ≡ some c → Won (SheetOk inst.kerf_width) inst c
winner_ok rows inst a n c e =
    winner_won (SheetOk inst.kerf_width) rows inst a.own_panels a.own_boards
    (all_map (λ s. (0 < s.width) × (0 < s.length)) _ (λ s h. new_ok inst.kerf_width s h.0 h.1) inst.stock a.boards)
    (λ i s t m f h.
    let p = in_all (λ c. (0 < c.width) × (0 < c.length)) inst.cuts a.panels m in
    record {
      layout = try_insert_sound inst.kerf_width s i t p.0 p.1 f h.layout;
      rebuilt = try_insert_rebuilt inst.kerf_width s i t f h.rebuilt;
      legal = try_insert_legal inst.kerf_width s i t f h.legal;
      parts = try_insert_parts inst.kerf_width s i t p.0 p.1 f h.parts;
    })
    n c e
