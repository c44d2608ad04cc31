-- A generation's passes over a population: each candidate improved in its slot.
use mathlib.Core.Path.{◌≡◌, refl, sym, ap, ◌∙◌, subst}
use mathlib.Core.Logic.{inr}
use mathlib.Core.List.{List, [], ◌∷◌, ◌++◌, map}
use mathlib.Core.Option.{get_or}
use Prim.Native.Nat.{ℕ, ◌+◌, ◌*◌, ◌≤◌, ◌<◌}
use native.Mathlib.Omega.{arith}
use lib.ListN.{length}
use Rattle.lists.proofs.Perm.{all_map, in_all}
use Rattle.lists.proofs.Sums.{map_append}
use Rattle.model.specs.declared.BaselineGuillotineHeuristic.{BaselineGuillotineHeuristic}
use Rattle.model.specs.declared.Rect.{Rect}
use Rattle.model.specs.Sheet.{GuillotineSheet, new_sheet, rebuild}
use Rattle.model.specs.Candidate.{Candidate, reinsert_unused_first_fit, compact_worst_bin}
use Rattle.model.specs.Expand.{ProblemInstance}
use Rattle.model.specs.Search.{repair_population, compact_population}
use Rattle.candidate.specs.declared.Candidate.{Candidate as Words}
use Rattle.candidate.specs.Entries.{on_board}
use Rattle.candidate.specs.Stands.{insertion_in, making_in, bin_in, sheet_boards, placed_words, candidate_in, Stands}
use Rattle.project.specs.Problem.{board_in}
use Rattle.candidate.specs.Bins.{ShowsBin, Shown}
use Rattle.candidate.specs.Compact.{SameSheet, Compacted}
use Rattle.search.specs.Slots.{slot_words, store_in}
use Rattle.search.specs.Populations.{words_at, StandsAt, candidate_at, population_in, AllStand, Stores, OnlySlots}
use Rattle.search.proofs.stored.Populations.{slot_kept, only_wider, only_none, only_then, same_slot, stands_as, standing_at, population_none, standing_none, population_snoc, pushed_only, pushed_population, pushed_stands}
use Rattle.search.specs.Improved.{improved, Improves}

-- free rectangles that show a candidate's sheets show those that a compaction leaves
module _ (inst : ProblemInstance) (free : List (List Rect)) (c r : Words) (k : Compacted inst c r) (s : Shown inst free c) where
  same_bin : (b : ℕ) → on_board b (placed_words r) ≡ on_board b (placed_words c) → bin_in inst (placed_words r) b ≡ bin_in inst (placed_words c) b
  unfolding bin_in making_in
  same_bin b e = ap (λ (l : List ℕ). get_or (rebuild inst.kerf_width (board_in inst b) (map (insertion_in inst) l)) (new_sheet (board_in inst b))) e

  pub compacted_shown : Shown inst free r
  compacted_shown =
      record {
        sheets = all_map (SameSheet c r) (ShowsBin inst (placed_words r) free)
            (λ b m. in_all (ShowsBin inst (placed_words c) free) (sheet_boards c) s.sheets m.0 ∙ ap (λ (t : GuillotineSheet). t.free_rects) (sym (same_bin b m.1)))
            (sheet_boards r) k.kept;
      }

-- three maps over one population are one
pub passes_are : (inst : ProblemInstance) (h : BaselineGuillotineHeuristic) (population : List Candidate)
    → map (improved inst h) population ≡ repair_population inst h (compact_population inst (repair_population inst h population))
unfolding improved repair_population compact_population
passes_are inst h [] = refl
passes_are inst h (c ∷ population) =
    ap {B = List Candidate} (λ r. reinsert_unused_first_fit inst.kerf_width h (compact_worst_bin inst.cuts (reinsert_unused_first_fit inst.kerf_width h c)) ∷ r) (passes_are inst h population)

-- ---- in slots

-- a store behind the last candidate
module _ (inst : ProblemInstance) (ws after : List ℕ) (base n : ℕ) (c : Words) (h : Stands inst [] c) (room : slot_words * (base + n) + slot_words ≤ length ws) (few : length inst.cuts ≤ 64)
    (e : after ≡ store_in ws (base + n) c) where
  pub pushed_holds : (cs : List Candidate) → Stores inst ws base n cs → Stores inst after base (n + 1) (cs ++ (candidate_in inst c ∷ []))
  pushed_holds cs k =
      record {
        is = pushed_population inst ws after base n c h room few e ∙ ap (λ (l : List Candidate). l ++ (candidate_in inst c ∷ [])) k.is;
        stands = pushed_stands inst ws after base n c h room few e k.stands;
      }

  pub pushed_within : (before : List ℕ) (lo hi : ℕ) → lo ≤ base + n → base + n + 1 ≤ hi → OnlySlots lo hi before ws → OnlySlots lo hi before after
  pushed_within before lo hi l m o = only_then lo hi before ws after o (only_wider (base + n) (base + n + 1) ws after (pushed_only inst ws after base n c h room few e) lo hi l m)

-- the first k candidates are improved
pub record ImprovedTo (inst : ProblemInstance) (h : BaselineGuillotineHeuristic) (before : List ℕ) (base k : ℕ) (ws : List ℕ) : Type 0 where
  pub holds : Stores inst ws base k (map (improved inst h) (population_in inst before base k))
  pub only : OnlySlots base (base + k) before ws

pub improved_none : (inst : ProblemInstance) (h : BaselineGuillotineHeuristic) (ws : List ℕ) (base : ℕ) → ImprovedTo inst h ws base 0 ws
improved_none inst h ws base =
    record {
      holds = record { is = population_none inst ws base ∙ ap (map (improved inst h)) (sym (population_none inst ws base)); stands = standing_none inst ws base };
      only = only_none base (base + 0) ws;
    }

module _ (inst : ProblemInstance) (h : BaselineGuillotineHeuristic) (before ws : List ℕ) (base k : ℕ) (i : ImprovedTo inst h before base k ws) where
  -- the next one is still as it was
  pub next_words : words_at inst ws (base + k) ≡ words_at inst before (base + k)
  next_words = same_slot inst before ws (base + k) (slot_kept base (base + k) before ws i.only (base + k) (inr (omega arith)))

  pub next_stands : (n : ℕ) → AllStand inst before base n → k < n → StandsAt inst ws (base + k)
  next_stands n s l = stands_as inst before ws (base + k) (base + k) (slot_kept base (base + k) before ws i.only (base + k) (inr (omega arith))) (standing_at inst before base n k s l)

  pub improved_step : (after : List ℕ) (c d : Words) → slot_words * (base + k) + slot_words ≤ length ws → length inst.cuts ≤ 64 → c ≡ words_at inst before (base + k)
      → Improves inst h c d → after ≡ store_in ws (base + k) d → ImprovedTo inst h before base (k + 1) after
  unfolding candidate_at
  improved_step after c d room few loaded m e =
      let f : Candidate → Candidate = improved inst h in
      let far : base + k + 1 ≡ base + (k + 1) = omega arith in
      let one : candidate_in inst d ≡ f (candidate_at inst before (base + k)) = m.is ∙ ap (λ (w : Words). f (candidate_in inst w)) loaded in
      let all : map f (population_in inst before base k) ++ (candidate_in inst d ∷ []) ≡ map f (population_in inst before base (k + 1)) =
      ap (λ (x : Candidate). map f (population_in inst before base k) ++ (x ∷ [])) one
      ∙ sym (ap (map f) (population_snoc inst before base k) ∙ map_append f (population_in inst before base k) (candidate_at inst before (base + k) ∷ []))
      in
      record {
        holds = subst (Stores inst after base (k + 1)) all (pushed_holds inst ws after base k d m.stands room few e (map f (population_in inst before base k)) i.holds);
        only = pushed_within inst ws after base k d m.stands room few e before base (base + (k + 1)) (omega arith) (omega arith)
            (only_wider base (base + k) before ws i.only base (base + (k + 1)) (omega arith) (omega arith));
      }
