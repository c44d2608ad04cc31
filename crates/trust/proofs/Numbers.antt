-- Refusals are numbered 1 to 17, and those of a file 1 to 14.
use Rattle.std.specs.Prelude.{if◌then◌else◌}
use Prim.Native.Nat.{ℕ, ◌+◌, ◌≤◌}
use native.Mathlib.Omega.{arith}
use mathlib.Core.Path.{◌≡◌, subst}
use mathlib.Core.Bool.{Bool, true, false, ◌&&◌}
use mathlib.Core.List.{List, [], ◌∷◌, ◌++◌}
use mathlib.Core.Option.{none, some, some-injective, none-ne-some}
use lib.Dec.{T, ltb, ltb→lt}
use borrow.Author.Tests.{lt-ltb, ne_eqb}
use Rattle.trust.proofs.Truth.{and_split}
use Rattle.lists.specs.Base.{◌<|>◌}
use Rattle.lists.specs.Elements.{All}
use Rattle.model.specs.Project.{Record, Project, project_of, well_formed}
use Rattle.model.specs.Refusal.{Check, RecordRule, first_that_applies, stock_rule, cut_rule, record_checks, settings_checks, whole_checks, project_checks, file_checks, file_refusal}
use Rattle.model.specs.Outcome.{is_late}
use Rattle.lists.proofs.Perm.{all_append}

abbrev pub is_number : ℕ → Bool
is_number n = ltb 0 n && ltb n 18

abbrev pub EarlyNumber : ℕ → Type 0
EarlyNumber n = T (ltb 0 n && ltb n 15)

early_most : (n : ℕ) → EarlyNumber n → n ≤ 14
early_most n h = omega (arith, ltb→lt n 15 (and_split (ltb 0 n) (ltb n 15) h).1)

pub early_number : (n : ℕ) → EarlyNumber n → T (is_number n)
early_number n h =
    rw (lt-ltb 0 n (ltb→lt 0 n (and_split (ltb 0 n) (ltb n 15) h).0), lt-ltb n 18 (omega (arith, early_most n h))) tt

pub early_not_late : (n : ℕ) → EarlyNumber n → is_late n ≡ false
unfolding is_late
early_not_late n h =
    let most = early_most n h in
    rw (ne_eqb n 15 (λ e. omega (arith, most, e)), ne_eqb n 16 (λ e. omega (arith, most, e)), ne_eqb n 17 (λ e. omega (arith, most, e)))

abbrev Early : Check → Type 0
Early c = EarlyNumber c.0

first_early : (cs : List Check) (k : ℕ) → All Early cs → first_that_applies cs ≡ some k → EarlyNumber k
unfolding first_that_applies
first_early [] k h e = absurd (none-ne-some k e)
first_early (c ∷ cs) k h e = go c.1 e (first_early cs k h.1)
  where
    go : (b : Bool) → ((if b then some c.0 else none) <|> first_that_applies cs) ≡ some k → (first_that_applies cs ≡ some k → EarlyNumber k) → EarlyNumber k
    go true g later = subst EarlyNumber (some-injective _ _ g) h.0
    go false g later = later g

-- ---- the table of checks

record_early : (rule : RecordRule) → ((seen : List ℕ) (count : ℕ) (p : Record) → All Early (rule seen count p))
    → (seen : List ℕ) (count : ℕ) (ps : List Record) → All Early (record_checks rule seen count ps)
unfolding record_checks
record_early rule f seen count [] = tt
record_early rule f seen count (p ∷ ps) =
    all_append Early (rule seen count p) (record_checks rule (p.id ∷ seen) (count + p.quantity) ps) (f seen count p) (record_early rule f (p.id ∷ seen) (count + p.quantity) ps)

stock_early : (seen : List ℕ) (count : ℕ) (p : Record) → All Early (stock_rule seen count p)
unfolding stock_rule
stock_early seen count p = (tt, (tt, (tt, (tt, (tt, (tt, tt))))))

cut_early : (seen : List ℕ) (count : ℕ) (p : Record) → All Early (cut_rule seen count p)
unfolding cut_rule
cut_early seen count p = (tt, (tt, (tt, (tt, (tt, (tt, tt))))))

project_early : (p : Project) → All Early (project_checks p)
unfolding project_checks settings_checks whole_checks
project_early p =
    let stock = record_checks stock_rule [] 0 p.stock in
    let cuts = record_checks cut_rule [] 0 p.cuts in
    all_append Early (settings_checks p) (stock ++ (cuts ++ whole_checks p)) (tt, (tt, tt))
    (all_append Early stock (cuts ++ whole_checks p) (record_early stock_rule stock_early [] 0 p.stock)
    (all_append Early cuts (whole_checks p) (record_early cut_rule cut_early [] 0 p.cuts) (tt, (tt, tt))))

-- of any file
pub file_early : (file : List ℕ) (k : ℕ) → file_refusal file ≡ some k → EarlyNumber k
unfolding file_refusal file_checks
file_early file k e = first_early (file_checks file) k (tt, go (well_formed file)) e
  where
    go : (b : Bool) → All Early (if b then project_checks (project_of file) else [])
    go true = project_early (project_of file)
    go false = tt

pub file_number : (file : List ℕ) (k : ℕ) → file_refusal file ≡ some k → k ≤ 14
file_number file k e = early_most k (file_early file k e)
