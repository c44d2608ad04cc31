-- What every candidate of the search over an admitted instance has: each board and each panel once, every sheet sound and within its ranges, and
-- at least one piece on it.
use Prim.Native.Nat.{ℕ}
use mathlib.Core.Path.{◌≡◌}
use mathlib.Core.List.{List, [], ◌∷◌, Memᴰ}
use mathlib.Core.Option.{some}
use lib.Dec.{T}
use Rattle.lists.specs.Base.{to_list, concat_map}
use Rattle.lists.specs.Elements.{Perm, All}
use Rattle.model.specs.declared.BaselineGuillotineHeuristic.{BaselineGuillotineHeuristic}
use Rattle.model.specs.declared.CutInstance.{CutInstance}
use Rattle.model.specs.Sheet.{GuillotineSheet, Insertion, new_sheet, try_insert}
use Rattle.model.specs.Candidate.{Candidate, new_candidate, place_cut_first_fit, place_cuts, reinsert_unused_first_fit, compact_worst_bin, is_valid}
use Rattle.model.specs.Expand.{ProblemInstance}
use Rattle.model.specs.Search.{SearchNumbers, default_heuristic, initial_population, child_of, run_generations, winner}
use Rattle.trust.specs.Proper.{AllFilled, CandidateProper, Kept, SheetProper, UnderWay}
use Rattle.trust.specs.Admitted.{Admitted, BoardRange, PanelRange, Ranged}
use Rattle.lists.proofs.Perm.{perm_refl, all_map, all_both, in_all}
use Rattle.trust.proofs.Sheet.{try_insert_sound, try_insert_rebuilt}
use Rattle.trust.proofs.Candidate.{place_kept, places_kept, reinsert_kept}
use Rattle.trust.proofs.Compact.{compact_kept}
use Rattle.trust.proofs.Search.{initial_good, child_good}
use Rattle.trust.proofs.Winner.{new_ok, try_insert_legal, try_insert_parts}
use Rattle.trust.proofs.Bounded.{new_bounded, try_insert_bounded}
use Rattle.trust.proofs.Generations.{generations_all, best_all}
use Rattle.trust.proofs.Filled.{place_filled, places_filled, reinsert_filled, compact_filled, child_filled, initial_filled}

-- ---- a sheet

pub try_insert_proper : (kerf : ℕ) (s : GuillotineSheet) (i : Insertion) (t : GuillotineSheet) → PanelRange i.cut → try_insert kerf s i ≡ some t → SheetProper kerf s → SheetProper kerf t
try_insert_proper kerf s i t r e h =
    record {
      ok = record {
        layout = try_insert_sound kerf s i t r.wide r.long e h.ok.layout;
        rebuilt = try_insert_rebuilt kerf s i t e h.ok.rebuilt;
        legal = try_insert_legal kerf s i t e h.ok.legal;
        parts = try_insert_parts kerf s i t r.wide r.long e h.ok.parts;
      };
      bounded = try_insert_bounded kerf s i t r e h.bounded;
    }

-- ---- a candidate

module _ (inst : ProblemInstance) (a : Admitted inst) (r : Ranged inst) where
  -- the two premises that the laws of candidates take of a property of sheets
  pub fresh_proper : All (λ s. SheetProper inst.kerf_width (new_sheet s)) inst.stock
  fresh_proper =
      all_map BoardRange (λ s. SheetProper inst.kerf_width (new_sheet s))
      (λ s h. record { ok = new_ok inst.kerf_width s h.wide h.long; bounded = new_bounded inst.kerf_width s h }) inst.stock r.boards

  pub keeps_proper : (i : Insertion) (s t : GuillotineSheet) → Memᴰ i.cut inst.cuts → try_insert inst.kerf_width s i ≡ some t
      → SheetProper inst.kerf_width s → SheetProper inst.kerf_width t
  keeps_proper i s t m e h = try_insert_proper inst.kerf_width s i t (in_all PanelRange inst.cuts r.panels m) e h

  -- ---- the steps of a placement

  pub start_proper : (order : List CutInstance) → Perm order inst.cuts → UnderWay inst order (new_candidate inst.stock)
  unfolding concat_map
  start_proper order p = record { kept = record { boards = perm_refl inst.stock; panels = p; sheets = tt }; filled = tt }

  pub place_proper : (h : BaselineGuillotineHeuristic) (c : Candidate) (cut : CutInstance) (later : List CutInstance) → UnderWay inst (cut ∷ later) c
      → UnderWay inst later (place_cut_first_fit inst.kerf_width h c cut)
  place_proper h c cut later k =
      record {
        kept = place_kept (SheetProper inst.kerf_width) inst.kerf_width inst.stock inst.cuts fresh_proper a.own_panels keeps_proper h c cut later k.kept;
        filled = place_filled inst.kerf_width h c cut k.filled;
      }

  pub places_proper : (h : BaselineGuillotineHeuristic) (c : Candidate) (later : List CutInstance) → UnderWay inst later c → CandidateProper inst (place_cuts inst.kerf_width h c later)
  places_proper h c later k =
      record {
        kept = places_kept (SheetProper inst.kerf_width) inst.kerf_width inst.stock inst.cuts fresh_proper a.own_panels keeps_proper h c later k.kept;
        filled = places_filled inst.kerf_width h c later k.filled;
      }

  -- ---- repair and compaction

  pub reinsert_proper : (h : BaselineGuillotineHeuristic) (c : Candidate) → CandidateProper inst c → CandidateProper inst (reinsert_unused_first_fit inst.kerf_width h c)
  reinsert_proper h c k =
      record {
        kept = reinsert_kept (SheetProper inst.kerf_width) inst.kerf_width inst.stock inst.cuts fresh_proper a.own_panels keeps_proper h c k.kept;
        filled = reinsert_filled inst.kerf_width h c k.filled;
      }

  pub compact_proper : (c : Candidate) → CandidateProper inst c → CandidateProper inst (compact_worst_bin inst.cuts c)
  compact_proper c k =
      record {
        kept = compact_kept (SheetProper inst.kerf_width) inst.kerf_width inst.stock inst.cuts a.own_panels c k.kept;
        filled = compact_filled inst.cuts c k.filled;
      }

-- ---- the search

module _ (rows : List BaselineGuillotineHeuristic) (inst : ProblemInstance) (a : Admitted inst) (r : Ranged inst) where
  abbrev row : BaselineGuillotineHeuristic
  row = default_heuristic rows

  abbrev KeptAll : Candidate → Type 0
  KeptAll c = Kept (SheetProper inst.kerf_width) inst.stock inst.cuts [] c

  both : (cs : List Candidate) → All KeptAll cs → All AllFilled cs → All (CandidateProper inst) cs
  both cs h k = all_both KeptAll AllFilled (CandidateProper inst) (λ c x y. record { kept = x; filled = y }) cs h k

  pub initial_proper : (n : SearchNumbers) → All (CandidateProper inst) (initial_population rows inst n)
  initial_proper n =
      both (initial_population rows inst n)
      (initial_good (SheetProper inst.kerf_width) rows inst a.own_panels a.own_boards (fresh_proper inst a r) (keeps_proper inst a r) n)
      (initial_filled rows inst n)

  pub child_proper : (left right : Candidate) → CandidateProper inst left → CandidateProper inst right → All (CandidateProper inst) (to_list (child_of inst row left right))
  child_proper left right l h =
      both (to_list (child_of inst row left right))
      (child_good (SheetProper inst.kerf_width) rows inst a.own_panels a.own_boards (fresh_proper inst a r) (keeps_proper inst a r) left right l.kept h.kept)
      (child_filled inst row left right h.filled)

  -- the population after any number of generations; `Generations` has the steps between
  pub generations_proper : (n : SearchNumbers) (survivors rounds : ℕ) → All (CandidateProper inst) (run_generations inst row survivors rounds (initial_population rows inst n))
  generations_proper n survivors rounds =
      generations_all (CandidateProper inst) inst row child_proper (reinsert_proper inst a r row) (compact_proper inst a r) survivors rounds (initial_population rows inst n) (initial_proper n)

  pub winner_proper : (n : SearchNumbers) (c : Candidate) → winner rows inst n ≡ some c → CandidateProper inst c × T (is_valid inst.cuts c)
  unfolding winner
  winner_proper n c e =
      best_all (CandidateProper inst) inst row child_proper (reinsert_proper inst a r row) (compact_proper inst a r) (run_generations inst row n.survivors n.generations (initial_population rows inst n)) c
      (generations_proper n n.survivors n.generations) e
