-- The table of refusals, row by row.
use Rattle.std.specs.Prelude.{if◌then◌else◌, Some, None}
use Rattle.std.specs.Bool.{then_some}
use Rattle.std.specs.Prelude as Language
use Prim.Native.Nat.{ℕ, zero, suc, ◌+◌, ◌/◌, ◌≤◌, ◌<◌}
use native.Mathlib.Numerals.{add-one}
use native.Mathlib.Omega.{arith}
use mathlib.Core.Path.{◌≡◌, refl, sym, ap, ◌∙◌}
use mathlib.Core.Bool.{Bool, true, false, not, ◌&&◌, ◌||◌}
use mathlib.Core.List.{List, [], ◌∷◌, ◌++◌}
use mathlib.Core.Option.{Option, none, some}
use lib.Dec.{eqb, ltb}
use lib.ListN.{length, get_or, drop}
use lib.Seq.{drop-cons}
use borrow.Author.Tests.{eqb-false}
use Rattle.std.proofs.lemmas.List.{drop_all}
use Rattle.lists.specs.Base.{◌<|>◌, any}
use Rattle.model.specs.Project.{Record, Project, record_length}
use Rattle.model.specs.Refusal.{Check, first_that_applies, bad_codes, zero_side, large_side, unlimited, RecordRule, stock_rule, cut_rule, record_checks, most_side, settings_checks}
use Rattle.project.specs.Records.{record_at, records}
use Rattle.project.proofs.Records.{left, left_all, left_next, left_none}
use Rattle.project.specs.declared.Refusal.{Refusal}
use Rattle.project.specs.Refusals.{refusal_number}
use Rattle.project.specs.Checks.{first_given, bad_settings, ids_before}

-- ---- the first check of a table

module _ (checks : List (Language.Option Refusal)) (k : ℕ) where
  abbrev here : Language.Option Refusal
  here = get_or checks k None

  pub check_applies : (r : Refusal) → k < length checks → here ≡ Some r → first_given (drop k checks) ≡ some (refusal_number r)
  unfolding first_given
  check_applies r h e = rw (drop-cons checks k None, e)

  pub check_passes : k < length checks → here ≡ None → first_given (drop k checks) ≡ first_given (drop (k + 1) checks)
  unfolding first_given
  check_passes h e = rw (drop-cons checks k None, e, add-one)

  pub no_check : length checks ≤ k → first_given (drop k checks) ≡ none
  unfolding first_given
  no_check h = rw (drop_all k checks h)

pub ruleset table = (check_applies, check_passes, no_check)

-- a check's refusal where its condition holds, as in the definition's row
pub next_check : (b : Bool) (r : Refusal) (o : Language.Option Refusal) (checks : List (Language.Option Refusal)) (conditions : List Check)
    → o ≡ then_some b r → first_given checks ≡ first_that_applies conditions → first_given (o ∷ checks) ≡ first_that_applies ((refusal_number r, b) ∷ conditions)
unfolding first_given first_that_applies
next_check true r o checks conditions e f = rw e refl
next_check false r o checks conditions e f = rw e f

pub no_checks : first_given [] ≡ first_that_applies []
unfolding first_given first_that_applies
no_checks = refl

-- ---- an id among those before

module _ (body : List ℕ) (id : ℕ) where
  abbrev pub among : ℕ → Bool
  among i = any (eqb id) (ids_before body i)

  pub among_none : among 0 ≡ false
  unfolding ids_before any
  among_none = refl

  pub among_next : (i : ℕ) → among (i + 1) ≡ (eqb id (record_at body i).id || among i)
  unfolding ids_before any
  among_next i = ap among (add-one i)

  -- one of the records before number i has the id
  pub among_one : (k i : ℕ) → k < i → id ≡ (record_at body k).id → among i ≡ true
  unfolding ids_before any
  among_one k zero h e = absurd (omega arith)
  among_one k (suc i) h e = go (eqb id (record_at body i).id) refl (λ n. among_one k i (earlier n) e)
    where
      earlier : (k ≡ i → ⊥) → k < i
      earlier n = omega arith

      go : (b : Bool) → eqb id (record_at body i).id ≡ b → ((k ≡ i → ⊥) → among i ≡ true) → (b || among i) ≡ true
      go true f later = refl
      go false f later = later (λ g. eqb-false id (record_at body i).id f (e ∙ ap (λ (j : ℕ). (record_at body j).id) g))

-- ---- the conditions of a record from what the code finds of it

module _ (p q : Record) (seen : List ℕ) (count more : ℕ) (codes zero large used : Bool)
    (same : p ≡ q) (more_is : more ≡ p.quantity) (zero_is : zero ≡ zero_side p) (large_is : large ≡ large_side p) (used_is : used ≡ any (eqb p.id) seen) where
  pub stock_checked : codes ≡ (bad_codes p || (unlimited p && not (eqb p.quantity 0)))
      → first_that_applies ((5, codes) ∷ (6, zero) ∷ (7, large) ∷ (8, eqb p.flag 0) ∷ (9, used) ∷ (10, ltb 64 (count + more)) ∷ []) ≡ first_that_applies (stock_rule seen count q)
  unfolding stock_rule
  stock_checked codes-is =
      rw (codes-is, zero_is, large_is, used_is, more_is) (ap (λ (r : Record). first_that_applies (stock_rule seen count r)) same)

  pub cut_checked : codes ≡ bad_codes p
      → first_that_applies ((5, codes) ∷ (6, zero) ∷ (7, large) ∷ (11, eqb p.quantity 0) ∷ (9, used) ∷ (12, ltb 64 (count + more)) ∷ []) ≡ first_that_applies (cut_rule seen count q)
  unfolding cut_rule
  cut_checked codes-is =
      rw (codes-is, zero_is, large_is, used_is, more_is) (ap (λ (r : Record). first_that_applies (cut_rule seen count r)) same)

-- ---- tables one behind the other

or_assoc : {A : Type 0} (a b c : Option A) → ((a <|> b) <|> c) ≡ (a <|> (b <|> c))
or_assoc none b c = refl
or_assoc (some x) b c = refl

pub rows_append : (xs ys : List Check) → first_that_applies (xs ++ ys) ≡ (first_that_applies xs <|> first_that_applies ys)
unfolding first_that_applies
rows_append [] ys = refl
rows_append (c ∷ xs) ys =
    let first : Option ℕ = if c.1 then some c.0 else none in
    ap (λ (o : Option ℕ). first <|> o) (rows_append xs ys) ∙ sym (or_assoc first (first_that_applies xs) (first_that_applies ys))

-- ---- the loop over the records

module _ (body : List ℕ) (rule : RecordRule) where
  -- the first refusal of what is left
  abbrev pub rest : ℕ → ℕ → Option ℕ
  rest i count = first_that_applies (record_checks rule (ids_before body i) count (left body i))

  pub rest_all : rest 0 0 ≡ first_that_applies (record_checks rule [] 0 (records body))
  unfolding ids_before
  rest_all = ap (λ (ps : List Record). first_that_applies (record_checks rule [] 0 ps)) (left_all body)

  abbrev pub own : ℕ → ℕ → Option ℕ
  own i count = first_that_applies (rule (ids_before body i) count (record_at body i))

  pub rest_next : (i count : ℕ) → i < length body / record_length → rest i count ≡ (own i count <|> rest (i + 1) (count + (record_at body i).quantity))
  unfolding record_checks ids_before
  rest_next i count h =
      let p : Record = record_at body i in
      ap (λ (ps : List Record). first_that_applies (record_checks rule (ids_before body i) count ps)) (left_next body i h)
      ∙ rows_append (rule (ids_before body i) count p) (record_checks rule (p.id ∷ ids_before body i) (count + p.quantity) (left body (i + 1)))
      ∙ ap (λ (k : ℕ). own i count <|> first_that_applies (record_checks rule (ids_before body k) (count + p.quantity) (left body (i + 1)))) (sym (add-one i))

  pub rest_none : (i count : ℕ) → length body / record_length ≤ i → rest i count ≡ none
  unfolding record_checks first_that_applies
  rest_none i count h = ap (λ (ps : List Record). first_that_applies (record_checks rule (ids_before body i) count ps)) (left_none body i h)

-- ---- the settings

pub settings_checked : (p : Project) (bad : Bool) (kerf : ℕ) → bad ≡ bad_settings p → kerf ≡ p.kerf
    → first_that_applies ((3, bad) ∷ (4, ltb most_side kerf) ∷ []) ≡ first_that_applies (settings_checks p)
unfolding settings_checks
settings_checked p bad kerf e f = rw (e, f)
