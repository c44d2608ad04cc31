-- A piece's and a head's words, by what the writer has at hand.
use Prim.Native.Nat.{ℕ, ◌/◌, ◌%◌, ◌^◌}
use denote.Enum.Declared.{tag_of}
use mathlib.Core.Path.{◌≡◌, refl}
use mathlib.Core.Bool.{Bool, true, false}
use mir.Val.{bool_byte}
use mathlib.Core.List.{[], ◌∷◌}
use Rattle.model.specs.declared.BaselineGuillotineHeuristic.{BaselineGuillotineHeuristic}
use Rattle.model.specs.declared.StockInstance.{StockInstance}
use Rattle.model.specs.declared.CutInstance.{CutInstance}
use Rattle.model.specs.declared.FitResult.{FitResult}
use Rattle.model.specs.declared.PatternDirection.{PatternDirection}
use Rattle.model.specs.contracts.PatternDirection.{the_type}
use Rattle.model.specs.Types.{pattern_code, flag_code}
use Rattle.model.specs.Plan.{piece_words}
use Rattle.plan.specs.Heads.{piece, head_words}

-- a pattern's number among its enum's
pub pattern_is : (p : PatternDirection) → tag_of the_type p ≡ pattern_code p
pattern_is PatternDirection.None = refl
pattern_is PatternDirection.ParallelToWidth = refl
pattern_is PatternDirection.ParallelToLength = refl

pub flag_is : (b : Bool) → bool_byte b ≡ flag_code b
flag_is true = refl
flag_is false = refl

pub piece_written : (cut : CutInstance) (h : BaselineGuillotineHeuristic) (fit : FitResult) (low high code flag : ℕ)
    → low ≡ cut.cut_id % 2 ^ 32 → high ≡ cut.cut_id / 2 ^ 32 → code ≡ pattern_code fit.pattern → flag ≡ flag_code fit.rotated
    → low ∷ high ∷ cut.instance ∷ fit.rect.x ∷ fit.rect.y ∷ fit.rect.width ∷ fit.rect.length ∷ code ∷ flag ∷ [] ≡ piece_words (piece cut h fit)
unfolding piece_words
piece_written cut h fit low high code flag e f g k = rw (e, f, g, k)

pub head_written : (stock : StockInstance) (low high used saw pieces waste nodes : ℕ) → low ≡ stock.stock_id % 2 ^ 32 → high ≡ stock.stock_id / 2 ^ 32
    → low ∷ high ∷ stock.instance ∷ stock.width ∷ stock.length ∷ used ∷ saw ∷ pieces ∷ waste ∷ nodes ∷ [] ≡ head_words stock used saw pieces waste nodes
unfolding head_words
head_written stock low high used saw pieces waste nodes e f = rw (e, f)
