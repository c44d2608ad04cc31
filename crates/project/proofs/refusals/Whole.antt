-- The checks after all records, and the whole table.
use Prim.Native.Nat.{ℕ, zero, suc, ◌+◌, ◌*◌, ◌/◌}
use native.Mathlib.Omega.{arith}
use mathlib.Core.Path.{◌≡◌, refl, sym, ap, ◌∙◌}
use mathlib.Core.Bool.{Bool, true, false, ◌&&◌}
use mathlib.Core.List.{List, [], ◌∷◌, ◌++◌, map}
use mathlib.Core.Option.{Option, none, some}
use lib.Dec.{eqb}
use lib.ListN.{length}
use borrow.Author.Tests.{eq-eqb, ne_eqb}
use Rattle.lists.proofs.Booleans.{and_true}
use Rattle.lists.specs.Base.{◌<|>◌, count_from, is_empty}
use Rattle.model.specs.Project.{Record, Project, record_length, cuts_start, cuts_length, read_record, read_records, project_of, well_formed}
use Rattle.model.specs.Refusal.{Check, first_that_applies, stock_rule, cut_rule, settings_checks, record_checks, total_quantity, whole_checks, project_checks, file_checks, file_refusal}
use Rattle.project.specs.Records.{record_at, records}
use Rattle.project.proofs.Shape.{cuts_read, file_refused}
use Rattle.project.proofs.refusals.Checks.{rows_append}

-- ---- the checks after all records

-- no numbers, no records
none_counted : (f : ℕ → Record) (n : ℕ) → is_empty (map f (count_from 0 n)) ≡ eqb n 0
unfolding count_from
none_counted f zero = refl
none_counted f (suc n) = sym (ne_eqb (suc n) 0 (λ e. omega arith))

-- no records are no cuts
pub cuts_empty : (body : List ℕ) (n : ℕ) (ps : List Record) → records body ≡ ps → n ≡ length body / record_length → is_empty ps ≡ eqb n 0
cuts_empty body n ps e f = ap is_empty (sym e) ∙ none_counted (record_at body) (length body / record_length) ∙ ap (λ (m : ℕ). eqb m 0) (sym f)

-- of every file
pub file_cuts_empty : (bytes : List ℕ) (n : ℕ) → n ≡ cuts_length bytes / record_length → is_empty (project_of bytes).cuts ≡ eqb n 0
unfolding read_records
file_cuts_empty bytes n e =
    ap is_empty (sym (cuts_read bytes)) ∙ none_counted (λ k. read_record bytes (cuts_start bytes + record_length * k)) (cuts_length bytes / record_length) ∙ ap (λ (m : ℕ). eqb m 0) (sym e)

module _ (p : Project) (n : ℕ) (empty : is_empty p.cuts ≡ eqb n 0) where
  pub whole_empty : n ≡ 0 → none ≡ first_that_applies (whole_checks p)
  unfolding whole_checks first_that_applies
  whole_empty e = rw (empty, eq-eqb n 0 e) (sym (nested (eqb p.layout 1)))
    where
      nested : (b : Bool) → ◌≡◌ {A = Option ℕ} (first_that_applies ((14, b && false) ∷ [])) none
      nested true = refl
      nested false = refl

  pub whole_rows : (n ≡ 0 → ⊥) → (stock layout : ℕ) → stock ≡ total_quantity p.stock → layout ≡ p.layout
      → first_that_applies ((13, eqb stock 0) ∷ (14, eqb layout 1) ∷ []) ≡ first_that_applies (whole_checks p)
  unfolding whole_checks
  whole_rows h stock layout e f = rw (empty, ne_eqb n 0 h, and_true, e, f)

-- ---- the whole table

pub project_rows : (p : Project)
    → first_that_applies (project_checks p)
    ≡ (first_that_applies (settings_checks p) <|> (first_that_applies (record_checks stock_rule [] 0 p.stock) <|> (first_that_applies (record_checks cut_rule [] 0 p.cuts) <|> first_that_applies (whole_checks p))))
unfolding project_checks
project_rows p =
    let stock : List Check = record_checks stock_rule [] 0 p.stock in
    let cuts : List Check = record_checks cut_rule [] 0 p.cuts in
    rows_append (settings_checks p) (stock ++ (cuts ++ whole_checks p))
    ∙ ap (λ (o : Option ℕ). first_that_applies (settings_checks p) <|> o)
    (rows_append stock (cuts ++ whole_checks p) ∙ ap (λ (o : Option ℕ). first_that_applies stock <|> o) (rows_append cuts (whole_checks p)))

pub file_contents : (bytes : List ℕ) → well_formed bytes ≡ true → first_that_applies (project_checks (project_of bytes)) ≡ file_refusal bytes
unfolding file_refusal file_checks first_that_applies
file_contents bytes e = rw e

-- ---- one check after the other

pub stops : (n : ℕ) (o p : Option ℕ) → o ≡ some n → (o <|> p) ≡ some n
stops n o p e = ap (λ (q : Option ℕ). q <|> p) e

pub goes_on : (o p : Option ℕ) → o ≡ none → (o <|> p) ≡ p
goes_on o p e = ap (λ (q : Option ℕ). q <|> p) e

pub ruleset in_turn = (project_rows, stops, goes_on)

pub ruleset of_the_file = (file_refused, file_contents)
