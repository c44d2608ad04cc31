-- The file of a project: its records one after the other, its size, and that it is well formed.
use Prim.Native.Nat.{ℕ, ◌+◌, ◌*◌, ◌%◌, ◌^◌, ◌≤◌, ◌<◌}
use native.Mathlib.Numerals.{add-one}
use native.Mathlib.Omega.{arith}
use mathlib.Core.Path.{◌≡◌, refl, sym, ap, ◌∙◌}
use mathlib.Core.Bool.{true}
use mathlib.Core.List.{List, [], ◌∷◌, ◌++◌, append_assoc, append-nil}
use lib.Dec.{eqb}
use lib.ListN.{length, get_or, take, length-append}
use lib.Seq.{take-suc, take_all}
use Rattle.lists.specs.Base.{concat_map}
use Rattle.lists.proofs.Sums.{length_concat_map}
use Rattle.model.specs.FileOf.{bytes_of}
use Rattle.model.specs.Project.{little_endian, number, well_formed}
use Rattle.words.specs.Appending.{with_bytes}
use Rattle.words.proofs.append.Buffers.{with_bytes-nil, with_bytes-append}
use Rattle.typed.specs.declared.line.Fields.{Fields}
use Rattle.typed.specs.declared.Draft.{Draft}
use Rattle.typed.specs.Project.{record_text, records_text, contents_text, settings_text, file_text}
use borrow.Author.Tests.{eq-eqb, le-leb}

-- ---- records one after the other

rows_more : (records : List Fields) (i : ℕ) (r : Fields) → i < length records → records_text (take i records) ++ record_text (get_or records i r) ≡ records_text (take (i + 1) records)
unfolding records_text concat_map
rows_more records i r h = sym (ap (λ (n : ℕ). concat_map record_text (take n records)) (add-one i) ∙ ap (concat_map record_text) (take-suc records i r h) ∙ snoc (take i records) (get_or records i r))
  where
    snoc : (xs : List Fields) (x : Fields) → concat_map record_text (xs ++ (x ∷ [])) ≡ concat_map record_text xs ++ record_text x
    snoc [] x = append-nil (record_text x)
    snoc (y ∷ ys) x = ap (λ (t : List ℕ). record_text y ++ t) (snoc ys x) ∙ sym (append_assoc (record_text y) (concat_map record_text ys) (record_text x))

module _ (room : ℕ) (held : List ℕ) (records : List Fields) where
  pub rows_none : held ≡ with_bytes room held (records_text (take 0 records))
  unfolding records_text concat_map
  rows_none = sym (with_bytes-nil room held)

  pub rows_next : (i : ℕ) (r : Fields) → i < length records → with_bytes room (with_bytes room held (records_text (take i records))) (record_text (get_or records i r)) ≡ with_bytes room held (records_text (take (i + 1) records))
  rows_next i r h = sym (with_bytes-append room held _ _) ∙ ap (with_bytes room held) (rows_more records i r h)

-- ---- sizes

length_row : (r : Fields) → length (record_text r) ≡ 24
unfolding record_text
length_row r = refl

length_rows : (records : List Fields) → length (records_text records) ≡ 24 * length records
unfolding records_text
length_rows records = length_concat_map 24 record_text length_row records ∙ omega arith

pub length_file : (d : Draft) → length (file_text d) ≡ 32 + 24 * length d.boards + 24 * length d.panels
unfolding file_text contents_text settings_text
length_file d =
    let e : length (records_text d.boards ++ records_text d.panels) ≡ 24 * length d.boards + 24 * length d.panels =
    length-append (records_text d.boards) (records_text d.panels) ∙ (λ i. length_rows d.boards i + length_rows d.panels i) in
    rw e (omega arith)

-- ---- the contents

-- four bytes say a number below 2 ^ 32
four : (n : ℕ) → n < 2 ^ 32 → little_endian (bytes_of 4 n) ≡ n
unfolding little_endian
four n h = omega arith

-- a file whose contents and length are right
shaped : (bytes : List ℕ) (b p : ℕ) → number bytes 0 4 ≡ 24 → number bytes 4 4 ≡ 8 → number bytes 8 4 ≡ 32 → number bytes 12 4 ≡ 24 * b
    → number bytes 16 4 ≡ 32 + 24 * b → number bytes 20 4 ≡ 24 * p → length bytes ≡ 32 + 24 * b + 24 * p → b ≤ 64 → p ≤ 64 → well_formed bytes ≡ true
unfolding well_formed
shaped bytes b p e f g h i j k m n =
    let x : eqb (24 * b % 24) 0 ≡ true = eq-eqb (24 * b % 24) 0 (omega arith) in
    let y : eqb (24 * p % 24) 0 ≡ true = eq-eqb (24 * p % 24) 0 (omega arith) in
    simp (
      e,
      f,
      g,
      h,
      i,
      j,
      k,
      x,
      y,
      le-leb (24 * b) 1536 (omega arith),
      le-leb (24 * p) 1536 (omega arith),
      eq-eqb (32 + 24 * b) (32 + 24 * b) refl,
      eq-eqb (32 + 24 * b + 24 * p) (32 + 24 * b + 24 * p) refl,
    )

pub well_formed_lem : (d : Draft) → length d.boards ≤ 64 → length d.panels ≤ 64 → well_formed (file_text d) ≡ true
unfolding number little_endian file_text contents_text settings_text
well_formed_lem d b p =
    shaped (file_text d) (length d.boards) (length d.panels) refl refl refl
    (four (24 * length d.boards) (omega arith))
    (four (32 + 24 * length d.boards) (omega arith))
    (four (24 * length d.panels) (omega arith))
    (length_file d) b p

-- a buffer with room for it holds a file, put in part by part
pub file_fits : (d : Draft) → length d.boards ≤ 64 → length d.panels ≤ 64 → with_bytes 3104 [] (file_text d) ≡ file_text d
unfolding with_bytes
file_fits d b p = take_all 3104 (file_text d) (omega (arith, length_file d))
