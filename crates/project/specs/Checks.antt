-- What the checks of a file are by: the first of them that applies, a kind's rule, and the ids before a record; and a file that passes them.
use Rattle.std.specs.Prelude.{ℕ, zero, suc, ◌<◌, Bool, not, ◌||◌, ◌≡◌, List, [], ◌∷◌, Option, Some, None, ltb, eqb, get_or}
use Rattle.std.proofs.Math.Option as Math
use Rattle.std.proofs.Math.Option.{none, some}
use Rattle.model.specs.Project.{Project}
use Rattle.model.specs.Refusal.{RecordRule, stock_rule, cut_rule, file_refusal}
use Rattle.project.specs.declared.Kind.{Kind}
use Rattle.project.specs.declared.Refusal.{Refusal}
use Rattle.project.specs.Records.{record_at}
use Rattle.project.specs.Refusals.{refusal_number}

-- the number of the first refusal
unfoldable pub first_given : List (Option Refusal) → Math.Option ℕ
first_given [] = none
first_given (None ∷ checks) = first_given checks
first_given (Some r ∷ checks) = some (refusal_number r)

-- the checks of a record of a kind
abbrev pub rule_of : Kind → RecordRule
rule_of Kind.Stock = stock_rule
rule_of Kind.Cut = cut_rule

-- a code of the settings out of range, or their last byte not zero
abbrev pub bad_settings : Project → Bool
bad_settings p = ltb 1 p.layout || ltb 2 p.effort || ltb 2 p.unit || not (eqb p.spare 0)

-- the ids of the records before number i, the last first
unfoldable pub ids_before : List ℕ → ℕ → List ℕ
ids_before body zero = []
ids_before body (suc i) = (record_at body i).id ∷ ids_before body i

-- what a file is that no check refuses
pub record Checked (file : List ℕ) : Type 0 where
  pub passed : file_refusal file ≡ none
  pub bytes : (i : ℕ) → get_or file i 0 < 256
