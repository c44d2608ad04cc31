-- What a well-formed file's lengths are, what its project's parts are by number, and its settings' codes.
use Prim.Native.Nat.{ℕ, ◌+◌, ◌*◌, ◌/◌, ◌%◌, ◌≤◌, ◌<◌}
use native.Mathlib.Omega.{arith}
use mathlib.Core.Path.{◌≡◌, refl, sym}
use mathlib.Core.Bool.{Bool, true, false, ◌&&◌}
use mathlib.Core.List.{List}
use mathlib.Core.Option.{some}
use lib.Dec.{eqb, leb}
use lib.ListN.{length}
use borrow.Author.Tests.{eqb-true, leb-true, ne_eqb}
use Rattle.lists.specs.Parts.{part}
use Rattle.lists.proofs.Booleans.{both}
use Rattle.model.specs.Project.{record_length, most_records, settings_entry, stock_entry, cuts_entry, settings_start, settings_length, stock_start, start_of, length_of, stock_length, cuts_start, cuts_length, body_length, read_records, project_of, well_formed}
use Rattle.model.specs.Refusal.{first_that_applies, file_checks, file_refusal}
use Rattle.project.specs.Records.{records}
use Rattle.project.proofs.Records.{records_in}

-- ---- lengths

pub record Shape (bytes : List ℕ) : Type 0 where
  pub stock_whole : record_length * (stock_length bytes / record_length) ≡ stock_length bytes
  pub stock_few : stock_length bytes ≤ record_length * most_records
  pub cuts_follow : start_of bytes cuts_entry ≡ cuts_start bytes
  pub cuts_whole : record_length * (cuts_length bytes / record_length) ≡ cuts_length bytes
  pub cuts_few : cuts_length bytes ≤ record_length * most_records
  pub ends : length bytes ≡ cuts_start bytes + cuts_length bytes

whole : (n : ℕ) → body_length n ≡ true → record_length * (n / record_length) ≡ n
whole n e = let h = eqb-true (n % record_length) 0 (both (eqb (n % record_length) 0) (leb n (record_length * most_records)) e).0 in omega arith

few : (n : ℕ) → body_length n ≡ true → n ≤ record_length * most_records
few n e = leb-true n (record_length * most_records) (both (eqb (n % record_length) 0) (leb n (record_length * most_records)) e).1

pub shape : (bytes : List ℕ) → well_formed bytes ≡ true → Shape bytes
unfolding well_formed
shape bytes e =
    let entries : Bool = eqb (start_of bytes settings_entry) settings_start && eqb (length_of bytes settings_entry) settings_length && eqb (start_of bytes stock_entry) stock_start in
    let stock : Bool = entries && body_length (stock_length bytes) in
    let follow : Bool = stock && eqb (start_of bytes cuts_entry) (cuts_start bytes) in
    let cuts : Bool = follow && body_length (cuts_length bytes) in
    let h₁ = both cuts (eqb (length bytes) (cuts_start bytes + cuts_length bytes)) e in
    let h₂ = both follow (body_length (cuts_length bytes)) h₁.0 in
    let h₃ = both stock (eqb (start_of bytes cuts_entry) (cuts_start bytes)) h₂.0 in
    let h₄ = both entries (body_length (stock_length bytes)) h₃.0 in
    record {
      stock_whole = whole (stock_length bytes) h₄.1;
      stock_few = few (stock_length bytes) h₄.1;
      cuts_follow = eqb-true (start_of bytes cuts_entry) (cuts_start bytes) h₃.1;
      cuts_whole = whole (cuts_length bytes) h₂.1;
      cuts_few = few (cuts_length bytes) h₂.1;
      ends = eqb-true (length bytes) (cuts_start bytes + cuts_length bytes) h₁.1;
    }

-- a file that is too short for the contents and settings is not well formed
pub short_file : (bytes : List ℕ) → length bytes < 32 → false ≡ well_formed bytes
unfolding well_formed
short_file bytes h =
    last
    (eqb (start_of bytes settings_entry) settings_start && eqb (length_of bytes settings_entry) settings_length && eqb (start_of bytes stock_entry) stock_start
    && body_length (stock_length bytes) && eqb (start_of bytes cuts_entry) (cuts_start bytes) && body_length (cuts_length bytes))
    (eqb (length bytes) (cuts_start bytes + cuts_length bytes))
    (ne_eqb (length bytes) (cuts_start bytes + cuts_length bytes) (λ e. omega arith))
  where
    last : (a b : Bool) → b ≡ false → false ≡ (a && b)
    last true b e = sym e
    last false b e = refl

module _ (bytes : List ℕ) where
  pub long : well_formed bytes ≡ true → 32 ≤ length bytes
  long e = let s : Shape bytes = shape bytes e in omega arith

  pub file_refused : well_formed bytes ≡ false → some 2 ≡ file_refusal bytes
  unfolding file_refusal file_checks first_that_applies
  file_refused e = rw e

  -- ---- the project's parts

  -- as the definition reads them, of every file
  pub stock_read : read_records bytes stock_start (stock_length bytes) ≡ (project_of bytes).stock
  unfolding project_of
  stock_read = refl

  pub cuts_read : read_records bytes (cuts_start bytes) (cuts_length bytes) ≡ (project_of bytes).cuts
  unfolding project_of
  cuts_read = refl

  -- as records of a body, of a well-formed file
  module _ (e : well_formed bytes ≡ true) where
    pub stock_is : records (part bytes stock_start (stock_length bytes)) ≡ (project_of bytes).stock
    unfolding project_of
    stock_is = let s : Shape bytes = shape bytes e in records_in bytes stock_start (stock_length bytes) (omega arith)

    pub cuts_is : records (part bytes (cuts_start bytes) (cuts_length bytes)) ≡ (project_of bytes).cuts
    unfolding project_of
    cuts_is = let s : Shape bytes = shape bytes e in records_in bytes (cuts_start bytes) (cuts_length bytes) (omega arith)
