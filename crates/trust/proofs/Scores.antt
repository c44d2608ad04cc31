-- The score and the validity of a candidate of the search without its catalogue: the keys of its pieces are found and differ, and the areas of their cuts are
-- its pieces' areas.
use Prim.Native.Nat.{ℕ, ◌-◌, ◌≤◌}
use native.Mathlib.Omega.{arith}
use mathlib.Core.Path.{◌≡◌, refl, sym, ap, ◌∙◌}
use mathlib.Core.Bool.{Bool, true, false, ◌&&◌}
use mathlib.Core.List.Memᴰ
use mathlib.Core.List.{List, [], ◌∷◌, ◌++◌, map, Memᴰ}
use mathlib.Core.Option.{some}
use Rattle.lists.specs.Base.{is_empty, sum, concat_map}
use Rattle.lists.specs.Elements.{All}
use lib.ListN.{length}
use Rattle.model.specs.declared.PatternDirection.{PatternDirection}
use Rattle.model.specs.declared.CutInstance.{CutInstance}
use Rattle.model.specs.declared.InstanceKey.{InstanceKey}
use Rattle.model.specs.Types.{area, cut_area, cut_key}
use Rattle.model.specs.Sheet.{GuillotineSheet, PlacedPiece, making_of, sheet_keys, placed_area}
use Rattle.model.specs.Fitness.{used_stock_area, fitness}
use Rattle.model.specs.Candidate.{Candidate, CandidateScore, contains_key, placed_cut_keys, cuts_for_keys, has_duplicate_keys, is_valid, score}
use Rattle.model.specs.Expand.{ProblemInstance}
use Rattle.trust.specs.Proper.{CandidateProper, SheetProper, cuts_of, placed_cuts}
use Rattle.trust.specs.Admitted.{Admitted, Differ, Distinct}
use Rattle.trust.specs.Sound.{Legal}
use Rattle.lists.proofs.Perm.{pairs_perm, perm_sym, all_map, mem_perm, all_self}
use Rattle.lists.proofs.Sums.{map_append, sum_append}
use Rattle.lists.proofs.Every.{pairs_left}
use Rattle.lists.proofs.Booleans.{is_false}
use Rattle.trust.proofs.Candidate.{differ_sym}
use Rattle.trust.proofs.Keys.{cuts_for_keys_known, sheet_keys_cuts}
use Rattle.trust.proofs.Crossover.{keys_out}
use Rattle.trust.proofs.Choice.{lies_area}
use Rattle.trust.proofs.Bounded.{placed_most}

-- ---- the cuts of the pieces, by their keys

pub placed_keys : (bins : List GuillotineSheet) → placed_cut_keys bins ≡ map cut_key (placed_cuts bins)
unfolding placed_cut_keys concat_map
placed_keys [] = refl
placed_keys (b ∷ bins) =
    ap (λ (r : List InstanceKey). r ++ concat_map sheet_keys bins) (sheet_keys_cuts b)
    ∙ ap (λ (r : List InstanceKey). map cut_key (cuts_of b) ++ r) (placed_keys bins)
    ∙ sym (map_append cut_key (cuts_of b) (placed_cuts bins))

pub placed_found : (inst : ProblemInstance) (c : Candidate) → Admitted inst → CandidateProper inst c → cuts_for_keys inst.cuts (placed_cut_keys c.bins) ≡ some (placed_cuts c.bins)
placed_found inst c a h =
    ap (cuts_for_keys inst.cuts) (placed_keys c.bins)
    ∙ cuts_for_keys_known inst.cuts (placed_cuts c.bins) a.own_panels
    (all_map (λ x. Memᴰ x (placed_cuts c.bins)) (λ x. Memᴰ x inst.cuts) (λ x m. mem_perm h.kept.panels (Memᴰ.append_left _ m)) (placed_cuts c.bins) (all_self (placed_cuts c.bins)))

-- ---- their areas

pieces_area : (board : PatternDirection) (ps : List PlacedPiece) → All (Legal board) ps
    → sum (map cut_area (map (λ i. i.cut) (map (λ p. p.by) ps))) ≡ sum (map (λ p. area p.fit.rect) ps)
unfolding sum
pieces_area board [] h = refl
pieces_area board (p ∷ ps) h = omega (arith, lies_area p.by.cut p.fit h.0.lies, pieces_area board ps h.1)

pub sheet_area : (kerf : ℕ) (s : GuillotineSheet) → SheetProper kerf s → sum (map cut_area (cuts_of s)) ≡ placed_area s
unfolding cuts_of making_of placed_area
sheet_area kerf s h = pieces_area s.stock.pattern s.placed_pieces h.ok.legal

unfoldable pub placed_areas : List GuillotineSheet → ℕ
placed_areas bins = sum (map placed_area bins)

pub placed_areas_lem : (kerf : ℕ) (bins : List GuillotineSheet) → All (SheetProper kerf) bins → sum (map cut_area (placed_cuts bins)) ≡ placed_areas bins
unfolding concat_map placed_areas sum
placed_areas_lem kerf [] h = refl
placed_areas_lem kerf (b ∷ bins) h = omega (arith, sum_append cut_area (cuts_of b) (placed_cuts bins), sheet_area kerf b h.0, placed_areas_lem kerf bins h.1)

-- so the waste area is a true difference
pub placed_areas_most : (kerf : ℕ) (bins : List GuillotineSheet) → All (SheetProper kerf) bins → placed_areas bins ≤ used_stock_area bins
unfolding placed_areas used_stock_area sum
placed_areas_most kerf [] h = omega arith
placed_areas_most kerf (b ∷ bins) h = omega (arith, placed_most kerf b h.0.bounded.layout, placed_areas_most kerf bins h.1)

-- ---- the score

abbrev pub score_of : List GuillotineSheet → CandidateScore
score_of bins = record { used_stock_count = length bins; waste_area = used_stock_area bins - placed_areas bins; fitness = fitness bins }

pub score_is : (inst : ProblemInstance) (c : Candidate) → Admitted inst → CandidateProper inst c → score inst.cuts c ≡ some (score_of c.bins)
unfolding score
score_is inst c a h =
    rw (placed_found inst c a h) (ap (λ (n : ℕ). some (made n)) (placed_areas_lem inst.kerf_width c.bins h.kept.sheets))
  where
    made : ℕ → CandidateScore
    made n = record { used_stock_count = length c.bins; waste_area = used_stock_area c.bins - n; fitness = fitness c.bins }

-- ---- validity

none_twice : (cs : List CutInstance) → Distinct cs → has_duplicate_keys (map cut_key cs) ≡ false
unfolding has_duplicate_keys
none_twice [] d = refl
none_twice (c ∷ cs) d = rw (is_false (contains_key (cut_key c) (map cut_key cs)) (keys_out c cs d.0)) (none_twice cs d.1)

-- a candidate of the search is valid exactly if it leaves no panel unused
pub valid_is : (inst : ProblemInstance) (c : Candidate) → Admitted inst → CandidateProper inst c → is_valid inst.cuts c ≡ is_empty c.unused_cuts
unfolding is_valid
valid_is inst c a h =
    let own : Distinct (placed_cuts c.bins) = pairs_left Differ (placed_cuts c.bins) (c.unused_cuts ++ []) (pairs_perm Differ differ_sym (perm_sym h.kept.panels) a.own_panels) in
    let once : has_duplicate_keys (placed_cut_keys c.bins) ≡ false = ap has_duplicate_keys (placed_keys c.bins) ∙ none_twice (placed_cuts c.bins) own in
    rw (once, placed_found inst c a h) (both_true (is_empty c.unused_cuts))
  where
    both_true : (b : Bool) → (b && true && true) ≡ b
    both_true true = refl
    both_true false = refl
