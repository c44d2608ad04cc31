-- The records of a body: that a part of the file has the file's, and the walk along them.
use Prim.Native.Nat.{ℕ, zero, suc, ◌+◌, ◌-◌, ◌*◌, ◌/◌, ◌≤◌, ◌<◌}
use native.Mathlib.Omega.{arith}
use mathlib.Core.Path.{◌≡◌, refl, sym, ap, ◌∙◌}
use mathlib.Core.List.{List, [], ◌∷◌, map}
use lib.ListN.{length, take, drop, length-drop}
use lib.Seq.{drop-drop, length-take-le}
use Rattle.lists.specs.Base.{sum, count_from}
use Rattle.lists.proofs.Parts.{part_take}
use Rattle.model.specs.Project.{Record, little_endian, number, read_record, read_records, record_length}
use Rattle.model.specs.Refusal.{total_quantity}
use Rattle.project.specs.Records.{record_at, records_from, records}

-- ---- a body in its file

module _ (bytes : List ℕ) (at size : ℕ) where
  abbrev body : List ℕ
  body = take size (drop at bytes)

  number_in : (p n : ℕ) → p + n ≤ size → number body p n ≡ number bytes (at + p) n
  unfolding number
  number_in p n h = ap little_endian (part_take p n size (drop at bytes) h ∙ ap (take n) (drop-drop p at bytes))

  field_in : (p f n : ℕ) → p + f + n ≤ size → number body (p + f) n ≡ number bytes (at + p + f) n
  field_in p f n h = let e : at + (p + f) ≡ at + p + f = omega arith in number_in (p + f) n h ∙ ap (λ (q : ℕ). number bytes q n) e

  piece_in : (p : ℕ) → p + record_length ≤ size → read_record body p ≡ read_record bytes (at + p)
  unfolding read_record
  piece_in p h = λ j. record {
    id = number_in p 8 (omega arith) j;
    width = field_in p 8 4 (omega arith) j;
    length = field_in p 12 4 (omega arith) j;
    quantity = field_in p 16 4 (omega arith) j;
    pattern = field_in p 20 1 (omega arith) j;
    flag = field_in p 21 1 (omega arith) j;
    spare = field_in p 22 2 (omega arith) j;
  }

  pieces_from : (i n : ℕ) → record_length * (i + n) ≤ size → records_from body i n ≡ map (λ k. read_record bytes (at + record_length * k)) (count_from i n)
  unfolding count_from
  pieces_from i zero h = refl
  pieces_from i (suc n) h = λ j. piece_in (record_length * i) (omega arith) j ∷ pieces_from (suc i) n (omega arith) j

  pub records_in : at + size ≤ length bytes → records body ≡ read_records bytes at size
  unfolding read_records
  records_in h =
      let long : length body ≡ size = length-take-le size (drop at bytes) (omega (arith, length-drop at bytes)) in
      ap (λ (n : ℕ). records_from body 0 (n / record_length)) long ∙ pieces_from 0 (size / record_length) (omega arith)

-- ---- along the records

module _ (body : List ℕ) where
  -- what is left from number i on
  abbrev pub left : ℕ → List Record
  left i = records_from body i (length body / record_length - i)

  pub left_all : left 0 ≡ records body
  left_all = let e : length body / record_length - 0 ≡ length body / record_length = omega arith in ap (records_from body 0) e

  pub left_next : (i : ℕ) → i < length body / record_length → left i ≡ record_at body i ∷ left (i + 1)
  unfolding count_from
  left_next i h =
      let n : ℕ = length body / record_length in
      let e : n - i ≡ suc (n - (i + 1)) = omega arith in
      let s : suc i ≡ i + 1 = omega arith in
      ap (records_from body i) e ∙ ap (λ (k : ℕ). record_at body i ∷ records_from body k (n - (i + 1))) s

  pub left_none : (i : ℕ) → length body / record_length ≤ i → left i ≡ []
  unfolding count_from
  left_none i h = let e : length body / record_length - i ≡ 0 = omega arith in ap (records_from body i) e

  -- record i is inside
  pub record_inside : (i : ℕ) → i < length body / record_length → record_length * i + record_length ≤ length body
  record_inside i h = omega arith

  -- the sum of what is left
  pub total_next : (i : ℕ) (p : Record) → i < length body / record_length → p ≡ record_at body i → total_quantity (left i) ≡ p.quantity + total_quantity (left (i + 1))
  unfolding sum
  total_next i p h e = ap total_quantity (left_next i h) ∙ ap (λ (q : Record). q.quantity + total_quantity (left (i + 1))) (sym e)

  pub total_none : (i : ℕ) → length body / record_length ≤ i → total_quantity (left i) ≡ 0
  unfolding sum
  total_none i h = ap total_quantity (left_none i h)
