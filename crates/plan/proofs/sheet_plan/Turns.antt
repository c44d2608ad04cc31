-- Insertion i of a making, over values: what each call needs, and what the last one leaves.
use Rattle.std.specs.Prelude.{None, Some}
use Rattle.std.specs.Prelude as Language
use Prim.Native.Nat.{ℕ, ◌+◌, ◌*◌, ◌≤◌, ◌<◌}
use native.Mathlib.Omega.{arith}
use mathlib.Core.Path.{◌≡◌, refl, sym, ap, ◌∙◌}
use mathlib.Core.Bool.{Bool}
use mathlib.Core.List.{List}
use mathlib.Core.Option.{some}
use lib.ListN.{length, get_or, take, length-take}
use Rattle.lists.specs.Base.{concat_map}
use Rattle.lists.specs.Parts.{patch}
use Rattle.lists.proofs.Every.{all_get}
use Rattle.lists.proofs.Parts.{patch_nil}
use Rattle.model.specs.declared.Rect.{Rect}
use Rattle.model.specs.declared.PatternDirection.{PatternDirection}
use Rattle.model.specs.declared.StockInstance.{StockInstance}
use Rattle.model.specs.declared.CutInstance.{CutInstance}
use Rattle.model.specs.declared.FitResult.{FitResult}
use Rattle.model.specs.declared.BaselineGuillotineHeuristic.{BaselineGuillotineHeuristic}
use Rattle.model.specs.Sheet.{GuillotineSheet, Insertion, new_sheet, try_insert}
use Rattle.model.specs.Expand.{ProblemInstance}
use Rattle.model.specs.Plan.{piece_words, sheet_words}
use Rattle.trust.specs.Admitted.{PanelRange, Ranged}
use Rattle.trust.specs.Proper.{Bounded}
use Rattle.sheet.specs.declared.Inserted.{Inserted}
use Rattle.sheet.specs.Places.{Shows}
use Rattle.sheet.specs.Insertions.{Insertable, InsertsInto, Inserts}
use Rattle.sheet.proofs.Sheets.{into_any}
use Rattle.candidate.specs.Entries.{board_of, cut_of, heuristic_of}
use Rattle.candidate.specs.Stands.{insertion_in, bin_in}
use Rattle.project.specs.Problem.{board_in, cut_in, no_cut}
use Rattle.guide.specs.declared.subtree.Node.{Node}
use Rattle.plan.specs.declared.sheet_plan.Progress.{Progress}
use Rattle.plan.specs.Replaying.{new_pieces, Replayed, Replayable, Takeable, Takes, TakeableIn, TakesIn, ReplaysWord, ReplaysSheet, Finishable}
use Rattle.plan.proofs.sheet_plan.Making.{begins, bin_pieces, begun_pieces, bin_board, bin_bounded, step_on, step_off, kept_pieces, cut_known, first_bin, last_bin}
use Rattle.plan.proofs.sheet_plan.Bodies.{sizes}
use Rattle.plan.proofs.sheet_plan.Steps.{no_piece, insertable, not_nothing, takeable, written, replayed, pieces_more}

-- ---- an insertion by its case

takeable_in : (l : List ℕ) (g : List Node) (p : Progress) (res : Language.Option Inserted) → (res ≡ None → ⊥)
    → ((k : ℕ) (fr : Rect) (f : FitResult) (merged : Bool) → res ≡ Some (record { index = k; free_rect = fr; fit = f; merged = merged }) → Takeable l g fr f p) → TakeableIn l g res p
takeable_in l g p None never may = never refl
takeable_in l g p (Some i) never may = may i.index i.free_rect i.fit i.merged refl

takes_in : (kerf : ℕ) (cut : CutInstance) (h : BaselineGuillotineHeuristic) (p : Progress) (l l' : List ℕ) (g g' : List Node) (q : Progress) (res : Language.Option Inserted)
    → TakesIn kerf cut h res p l l' g g' q → (Goal : Type 0)
    → ((k : ℕ) (fr : Rect) (f : FitResult) (merged : Bool) → res ≡ Some (record { index = k; free_rect = fr; fit = f; merged = merged }) → Takes kerf cut h fr f merged p l l' g g' q → Goal) → Goal
takes_in kerf cut h p l l' g g' q None takes Goal by = absurd takes
takes_in kerf cut h p l l' g g' q (Some i) takes Goal by = by i.index i.free_rect i.fit i.merged refl takes

-- ---- one insertion

module _ (inst : ProblemInstance) (words : List ℕ) (b : ℕ) (m : Replayable inst words b) (i : ℕ) (h : i < length words)
    (w : List Rect) (g : List Node) (p : Progress) (state : Replayed inst.kerf_width (bin_in inst (take i words) b) w g p) where
  abbrev s : GuillotineSheet
  s = bin_in inst (take i words) b

  abbrev t : GuillotineSheet
  t = bin_in inst (take (i + 1) words) b

  abbrev word : ℕ
  word = get_or words i 0

  -- not on the board
  pub passed : (board_of word ≡ b → ⊥) → (l : List ℕ) → ReplaysWord inst words b i l l w g p
  passed off l =
      let same : t ≡ s = step_off inst words b m i h off in
      record {
        state = rw same state;
        pieces = no_piece s l (9 * length s.placed_pieces) ∙ ap (λ (u : GuillotineSheet). patch l (9 * length s.placed_pieces) (new_pieces s u)) (sym same);
      }

  few : length s.placed_pieces < 64
  few = omega (arith, bin_pieces inst (take i words) b (begins inst words b m i), length-take i words, m.few)

  module _ (r : Ranged inst) (on : board_of word ≡ b) where
    bounded : Bounded inst.kerf_width s
    bounded = bin_bounded inst (take i words) b (begins inst words b m i) r

    pub ready : Insertable inst.kerf_width w
    ready = insertable inst.kerf_width s t (insertion_in inst word) w g p state bounded (step_on inst words b m i h on) few

    module _ (pattern : PatternDirection) (cut : CutInstance) (row : BaselineGuillotineHeuristic)
        (grain : pattern ≡ (board_in inst b).pattern) (known : cut ≡ cut_in inst (cut_of word)) (way : row ≡ heuristic_of word) where
      insertion : Insertion
      insertion = record { cut = cut; heuristic = row }

      step : try_insert inst.kerf_width s insertion ≡ some t
      unfolding insertion insertion_in
      step = rw (known, way) (step_on inst words b m i h on)

      panel : PanelRange cut
      unfolding cut_in
      panel = rw known (all_get PanelRange inst.cuts (cut_of word) no_cut r.panels (cut_known inst words b m i h))

      shown : Shows w pattern s
      shown = rw (grain, ← ap (λ st. st.pattern) (bin_board inst (take i words) b (begins inst words b m i))) state.free

      module _ (w' : List Rect) (res : Language.Option Inserted) (ends : Inserts inst.kerf_width pattern cut row w w' res) where
        into : (q : Language.Option Inserted) → res ≡ q → InsertsInto inst.kerf_width s insertion w w' q
        unfolding insertion
        into q e = rw e at (into_any inst.kerf_width pattern cut row w s shown w' res ends)

        never : res ≡ None → ⊥
        never e = not_nothing inst.kerf_width s t insertion w g p state bounded step w' (into None e)

        module _ (k : ℕ) (fr : Rect) (f : FitResult) (merged : Bool) (e : res ≡ Some (record { index = k; free_rect = fr; fit = f; merged = merged })) (l : List ℕ) where
          may_take : 9 * length (bin_in inst words b).placed_pieces ≤ length l → Takeable l g fr f p
          unfolding insertion
          may_take fits =
              takeable inst.kerf_width s t insertion w g p state bounded step w' k fr f merged (into (Some (record { index = k; free_rect = fr; fit = f; merged = merged })) e) l panel
              (omega (arith, begun_pieces inst words b m (i + 1))) (omega (arith, begun_pieces inst words b m (i + 1), bin_pieces inst words b m, m.few))

          taken : (l' : List ℕ) (g' : List Node) (q : Progress) → Takes inst.kerf_width cut row fr f merged p l l' g g' q → ReplaysWord inst words b i l l' w' g' q
          unfolding insertion
          taken l' g' q takes =
              record {
                state = replayed inst.kerf_width s t insertion w g p state bounded step w' k fr f merged (into (Some (record { index = k; free_rect = fr; fit = f; merged = merged })) e) l l' g' q takes panel;
                pieces = written inst.kerf_width s t insertion w g p state bounded step w' k fr f merged (into (Some (record { index = k; free_rect = fr; fit = f; merged = merged })) e) l l' g' q takes;
              }

        -- the piece of an insertion that finds its place
        pub room_for : (l : List ℕ) → 9 * length (bin_in inst words b).placed_pieces ≤ length l → TakeableIn l g res p
        room_for l fits = takeable_in l g p res never (λ k fr f merged e. may_take k fr f merged e l fits)

        pub done : (l l' : List ℕ) (g' : List Node) (q : Progress) → TakesIn inst.kerf_width cut row res p l l' g g' q → ReplaysWord inst words b i l l' w' g' q
        done l l' g' q takes =
            takes_in inst.kerf_width cut row p l l' g g' q res takes (ReplaysWord inst words b i l l' w' g' q) (λ k fr f merged e one. taken k fr f merged e l l' g' q one)

-- ---- the whole making

module _ (inst : ProblemInstance) (words : List ℕ) (b : ℕ) (m : Replayable inst words b) (l₀ : List ℕ) where
  bare_pieces : (stock : StockInstance) → l₀ ≡ patch l₀ 0 (concat_map piece_words (new_sheet stock).placed_pieces)
  unfolding new_sheet concat_map
  bare_pieces stock = patch_nil l₀ 0

  pub replay_start : (w : List Rect) (g : List Node) (p : Progress) (stock : StockInstance) → stock ≡ board_in inst b → Replayed inst.kerf_width (new_sheet stock) w g p
      → ReplaysSheet inst.kerf_width (bin_in inst (take 0 words) b) l₀ l₀ w g p
  replay_start w g p stock e state = rw (first_bin inst words b m, ← e) (record { state = state; pieces = bare_pieces stock })

  pub replay_turn : (i : ℕ) → i < length words → 9 * length (bin_in inst words b).placed_pieces ≤ length l₀ → (l : List ℕ) (w : List Rect) (g : List Node) (p : Progress)
      → ReplaysSheet inst.kerf_width (bin_in inst (take i words) b) l₀ l w g p
      → (l' : List ℕ) (w' : List Rect) (g' : List Node) (q : Progress) → ReplaysWord inst words b i l l' w' g' q
      → ReplaysSheet inst.kerf_width (bin_in inst (take (i + 1) words) b) l₀ l' w' g' q
  replay_turn i h room l w g p before l' w' g' q turn =
      record {
        state = turn.state;
        pieces = pieces_more l₀ l l' (bin_in inst (take i words) b) (bin_in inst (take (i + 1) words) b) (omega (arith, begun_pieces inst words b m i)) (kept_pieces inst words b m i h) before.pieces turn.pieces;
      }

  pub replay_end : (i : ℕ) → i ≡ length words → (l : List ℕ) (w : List Rect) (g : List Node) (p : Progress) → ReplaysSheet inst.kerf_width (bin_in inst (take i words) b) l₀ l w g p
      → ReplaysSheet inst.kerf_width (bin_in inst words b) l₀ l w g p
  replay_end i e l w g p done = rw (e, last_bin inst words b m) at done

-- what follows the pieces can be written
pub finishable : (inst : ProblemInstance) → Ranged inst → (words : List ℕ) (b : ℕ) → Replayable inst words b → (part : List ℕ) (w : List Rect) (g : List Node) (p : Progress) (stock : StockInstance)
    → stock ≡ board_in inst b → Replayed inst.kerf_width (bin_in inst words b) w g p → length (sheet_words (bin_in inst words b)) ≤ length part → Finishable part w g stock p
finishable inst r words b m part w g p stock e state room =
    sizes inst.kerf_width (bin_in inst words b) w g p state r.kerf (bin_bounded inst words b m r) (omega (arith, bin_pieces inst words b m, m.few)) part stock
    (bin_board inst words b m ∙ sym e) room
