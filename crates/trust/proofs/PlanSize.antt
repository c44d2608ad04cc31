-- How long a plan is: with N panels and S boards at most 4 + 45 N + 24 min(N, S) words, so at most 4,420, and each word is a u32.
use Prim.Native.Nat.{ℕ, ◌+◌, ◌*◌, ◌≤◌}
use native.Mathlib.Omega.{arith}
use mathlib.Core.Path.{◌≡◌, refl, ap}
use mathlib.Core.List.{List, [], ◌∷◌, map}
use mathlib.Core.Option.{get_or}
use lib.ListN.{length, length-append}
use lib.Ieee.{Float}
use Rattle.lists.specs.Base.{concat_map, sum}
use Rattle.lists.specs.Elements.{All}
use Rattle.model.specs.declared.LayoutKind.{LayoutKind}
use Rattle.model.specs.declared.BaselineGuillotineHeuristic.{BaselineGuillotineHeuristic}
use Rattle.model.specs.Types.{layout_of}
use Rattle.model.specs.Fitness.{fitness, positive_zero, one}
use Rattle.model.specs.Project.{project_of}
use Rattle.model.specs.Sheet.{GuillotineSheet}
use Rattle.model.specs.Plan.{sheet_words, contents_from, plan_words}
use Rattle.model.specs.Answer.{plan, answer_with}
use Rattle.lists.proofs.Perm.{all_map}
use Rattle.lists.proofs.Sums.{length-map}
use Rattle.trust.specs.Limits.{plan_limit, most_plan}
use Rattle.trust.specs.Proper.{FreeCount, NodeCount, SheetProper}
use Rattle.trust.specs.Admitted.{Ranged}
use Rattle.trust.proofs.Answer.{instance_of}
use Rattle.trust.proofs.Ranges.{Byte, ranged}
use Rattle.trust.proofs.CandidateSize.{piece_count, candidate_counts}
use Rattle.trust.proofs.RoundTrip.{sheet_length, contents_length}
use Rattle.trust.proofs.Planned.{plan_admitted, Planned, no_cuts, searched_for, planned}

-- ---- the plan's

abbrev pub Counted : GuillotineSheet → Type 0
Counted s = FreeCount s × NodeCount s

-- the words of all bodies together
unfoldable pub body_words : List GuillotineSheet → ℕ
body_words sheets = length (concat_map (λ (b : List ℕ). b) (map sheet_words sheets))

bodies_most : (sheets : List GuillotineSheet) → All Counted sheets → body_words sheets ≤ 45 * piece_count sheets + 22 * length sheets
unfolding body_words concat_map piece_count sum
bodies_most [] h = omega arith
bodies_most (s ∷ sheets) h =
    omega (
      arith,
      length-append (sheet_words s) (concat_map (λ (b : List ℕ). b) (map sheet_words sheets)),
      sheet_length s,
      h.0.0,
      h.0.1,
      bodies_most sheets h.1,
    )

pub plan_length : (layout : LayoutKind) (f : Float) (sheets : List GuillotineSheet) → length (plan_words layout f sheets) ≡ 4 + 2 * length sheets + body_words sheets
unfolding plan_words body_words
plan_length layout f sheets =
    let bodies = map sheet_words sheets in
    omega (
      arith,
      length-append (contents_from (4 + 2 * length sheets) bodies) (concat_map (λ (b : List ℕ). b) bodies),
      contents_length (4 + 2 * length sheets) bodies,
      length-map sheet_words sheets,
    )

empty_count : piece_count [] ≡ 0
unfolding piece_count sum
empty_count = refl

pub plan_most : (layout : LayoutKind) (f : Float) (sheets : List GuillotineSheet) → All Counted sheets
    → length (plan_words layout f sheets) ≤ 4 + 45 * piece_count sheets + 24 * length sheets
plan_most layout f sheets h = omega (arith, plan_length layout f sheets, bodies_most sheets h)

-- ---- the answer's

pub counted : (kerf : ℕ) (sheets : List GuillotineSheet) → All (SheetProper kerf) sheets → All Counted sheets
counted kerf sheets h = all_map (SheetProper kerf) Counted (λ s k. (k.bounded.free, k.bounded.nodes)) sheets h

-- with N panels and S boards
pub plan_size : (rows : List BaselineGuillotineHeuristic) (bytes words : List ℕ) → All Byte bytes → answer_with rows bytes ≡ plan words
    → length words ≤ plan_limit (length (instance_of bytes).cuts) (length (instance_of bytes).stock)
plan_size rows bytes words b e = go (planned rows bytes words b e)
  where
    r : Ranged (instance_of bytes)
    r = ranged bytes b (plan_admitted rows bytes words e)

    go : Planned bytes words → length words ≤ plan_limit (length (instance_of bytes).cuts) (length (instance_of bytes).stock)
    go (no_cuts z w) = omega (arith, ap length w, plan_most (layout_of (project_of bytes).layout) one [] tt, empty_count)
    go (searched_for p) =
        let c = candidate_counts (instance_of bytes) r [] p.candidate p.proper in
        omega (arith, ap length p.as_words, plan_most LayoutKind.Guillotine (get_or (fitness p.candidate.bins) positive_zero) p.candidate.bins (counted (instance_of bytes).kerf_width p.candidate.bins p.proper.kept.sheets), c.pieces, c.boards, c.sheets)

pub plan_size_most : (rows : List BaselineGuillotineHeuristic) (bytes words : List ℕ) → All Byte bytes → answer_with rows bytes ≡ plan words → length words ≤ most_plan
plan_size_most rows bytes words b e =
    let r = ranged bytes b (plan_admitted rows bytes words e) in
    omega (arith, plan_size rows bytes words b e, r.few_panels)
