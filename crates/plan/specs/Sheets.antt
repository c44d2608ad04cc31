-- What the writer leaves of the lent memory.
use Rattle.std.specs.Prelude.{ℕ, ◌+◌, ◌*◌, ◌≡◌, ◌&&◌, List, ◌++◌, map, ltb, leb, length, get_or, take, drop, Option, Some, None, if◌then◌else◌}
use Rattle.std.proofs.Math.Option as Defined
use Rattle.lists.specs.Base.{concat_map}
use Rattle.lists.specs.Parts.{patch}
use Rattle.model.specs.declared.LayoutKind.{LayoutKind}
use Rattle.model.specs.Sheet.{GuillotineSheet}
use Rattle.model.specs.Fitness.{fitness, positive_zero}
use Rattle.model.specs.Candidate.{Candidate}
use Rattle.model.specs.Plan.{sheet_words, contents_from, plan_words, entry_of}
use Rattle.candidate.specs.declared.fitness.SheetAreas.{SheetAreas}
use Rattle.candidate.specs.Areas.{areas_of}
use Rattle.plan.specs.declared.Bodies.{Bodies}

-- a plan's words first, the words behind them as found; the count of the plan's
pub record Plans (words before after : List ℕ) (count : ℕ) : Type 0 where
  pub memory : after ≡ words ++ drop (length words) before
  pub counts : count ≡ length words

-- the words of `solution` in the guillotine layout
abbrev pub candidate_plan : Candidate → List ℕ
candidate_plan c = plan_words LayoutKind.Guillotine (Defined.get_or (fitness c.bins) positive_zero) c.bins

-- ---- the sheets

-- the bodies of sheets, without gaps
abbrev pub bodies_of : List GuillotineSheet → List ℕ
bodies_of sheets = concat_map (λ b. b) (map sheet_words sheets)

-- entries from word 4 on and bodies from a start on, and the areas that fitness needs
pub record WritesFrom (start : ℕ) (sheets : List GuillotineSheet) (before after : List ℕ) (end : ℕ) (areas : List SheetAreas) : Type 0 where
  pub words : after ≡ patch (patch before 4 (contents_from start (map sheet_words sheets))) start (bodies_of sheets)
  pub ends : end ≡ start + length (bodies_of sheets)
  pub noted : areas ≡ map areas_of sheets

-- of all sheets: the bodies start behind the contents
abbrev pub WritesSheets : List GuillotineSheet → (before after : List ℕ) → Bodies → Type 0
WritesSheets sheets before after b = WritesFrom (4 + 2 * length sheets) sheets before after b.end b.areas.items

-- ---- the reader

-- the part that an entry names; none for an absent number, or an entry or its part beyond the words
unfoldable pub part_named : List ℕ → ℕ → Option (List ℕ)
part_named words number =
    if ltb number (get_or words 0 0) && leb (entry_of number + 2) (length words)
    && leb (get_or words (entry_of number) 0 + get_or words (entry_of number + 1) 0) (length words)
    then Some (take (get_or words (entry_of number + 1) 0) (drop (get_or words (entry_of number) 0) words))
    else None
