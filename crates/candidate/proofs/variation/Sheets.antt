-- The sheets of a candidate, counted.
use Prim.Native.Nat.{ℕ, ◌≤◌, ◌<◌}
use native.Mathlib.Omega.{arith}
use mathlib.Core.Path.{◌≡◌, ap, ◌∙◌}
use mathlib.Core.List.{List, [], map}
use lib.ListN.{length, take, length-take}
use lib.Seq.{length-take-le}
use Rattle.lists.proofs.Perm.{length_perm}
use Rattle.lists.proofs.Sums.{length-map, length_count_from}
use Rattle.model.specs.Expand.{ProblemInstance}
use Rattle.candidate.specs.declared.fitness.SheetAreas.{SheetAreas}
use Rattle.candidate.specs.Areas.{areas_of}
use Rattle.candidate.specs.declared.Candidate.{Candidate as Words}
use Rattle.candidate.specs.Stands.{bin_in, placed_words, sheet_boards, candidate_in, Stands}
use Rattle.candidate.specs.OnSheets.{AreasOf}

module _ (inst : ProblemInstance) (c : Words) (s : Stands inst [] c) where
  -- each board is there once
  pub few_boards : length inst.stock ≤ 64
  few_boards = omega (arith, length_perm s.boards, length_count_from 0 (length inst.stock), length-take (length inst.stock) c.boards, s.room)

  few_sheets : c.sheets ≤ 64
  few_sheets = omega (arith, few_boards, s.sheets)

  pub bin_count : length (candidate_in inst c).bins ≡ c.sheets
  unfolding candidate_in
  bin_count = length-map (bin_in inst (placed_words c)) (sheet_boards c) ∙ length-take-le c.sheets c.boards (omega (arith, few_sheets, s.room))

  pub index_known : (k : ℕ) → k < length (candidate_in inst c).bins → k < length inst.stock
  index_known k h = omega (arith, bin_count, s.sheets)

  pub areas_count : (areas : List SheetAreas) → AreasOf areas (candidate_in inst c).bins → length areas ≡ c.sheets
  areas_count areas of = ap length of ∙ length-map areas_of (candidate_in inst c).bins ∙ bin_count

pub no_bins : (inst : ProblemInstance) (c : Words) → c.sheets ≡ 0 → (candidate_in inst c).bins ≡ []
unfolding candidate_in
no_bins inst c e = ap (λ (n : ℕ). map (bin_in inst (placed_words c)) (take n c.boards)) e
