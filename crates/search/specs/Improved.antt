-- A candidate from a seed, the sheets of a candidate shown, and a candidate improved.
use Rattle.std.specs.Prelude.{ℕ, ◌≡◌, List, []}
use Rattle.std.proofs.Math.Option.{some}
use Rattle.model.specs.declared.BaselineGuillotineHeuristic.{BaselineGuillotineHeuristic}
use Rattle.lists.specs.Elements.{All}
use Rattle.model.specs.declared.Rect.{Rect}
use Rattle.model.specs.Candidate.{Candidate, reinsert_unused_first_fit, compact_worst_bin}
use Rattle.model.specs.Expand.{ProblemInstance}
use Rattle.model.specs.Search.{candidate_from_seed}
use Rattle.candidate.specs.declared.Candidate.{Candidate as Words}
use Rattle.candidate.specs.Moves.{new_words, with_cuts, reinserted}
use Rattle.candidate.specs.Stands.{sheet_boards, candidate_in, Stands}
use Rattle.candidate.specs.Bins.{Other, rects_on, Shown}
use Rattle.candidate.specs.Compact.{compacted_words}
use Rattle.search.specs.declared.seeds.CandidateSeed.{CandidateSeed}
use Rattle.search.specs.Seeds.{seed_in}

-- candidate_from_seed: every cut of the seed is in the catalogue
pub record FromSeed (inst : ProblemInstance) (seed : CandidateSeed) (r : Words) : Type 0 where
  pub words : r ≡ with_cuts inst seed.heuristic new_words seed.cut_order.items
  pub is : candidate_from_seed inst (seed_in inst seed) ≡ some (candidate_in inst r)
  pub stands : Stands inst [] r

-- the sheets of a candidate shown, and the free rectangles of all other boards as found
pub record ShowsSheets (inst : ProblemInstance) (c : Words) (before after : List (List Rect)) : Type 0 where
  pub shown : Shown inst after c
  pub others : (b : ℕ) → All (Other b) (sheet_boards c) → rects_on after b ≡ rects_on before b

-- what a generation does to each candidate: repair, compaction, repair
unfoldable pub improved : ProblemInstance → BaselineGuillotineHeuristic → Candidate → Candidate
improved inst h c =
    reinsert_unused_first_fit inst.kerf_width h (compact_worst_bin inst.cuts (reinsert_unused_first_fit inst.kerf_width h c))

-- the same of words
unfoldable pub improved_words : ProblemInstance → BaselineGuillotineHeuristic → Words → Words
improved_words inst h c = reinserted inst h (compacted_words inst (reinserted inst h c))

pub record Improves (inst : ProblemInstance) (h : BaselineGuillotineHeuristic) (c r : Words) : Type 0 where
  pub words : r ≡ improved_words inst h c
  pub is : candidate_in inst r ≡ improved inst h (candidate_in inst c)
  pub stands : Stands inst [] r
