-- Words past a plan's last body are not read. What is in the layout stays so, and reads alike, whatever follows it.
use Prim.Native.Nat.{ℕ, zero, suc, ◌+◌, ◌≤◌, ◌<◌}
use native.Mathlib.Omega.{arith}
use mathlib.Core.Path.{◌≡◌, refl, sym, ap, ◌∙◌}
use mathlib.Core.Bool.{◌&&◌}
use mathlib.Core.List.{List, [], ◌∷◌, ◌++◌, map}
use lib.Dec.{T, leb, ltb, eqb, leb→le, eqb→eq, le→leb}
use lib.ListN.{length, take, drop, length-append, length-drop, get_or-append}
use lib.Seq.{take-append-le, drop-append-le}
use Rattle.lists.specs.Base.{count_from, range}
use Rattle.lists.specs.Elements.{All}
use Rattle.model.specs.Plan.{entry_of, sheet_part}
use Rattle.trust.proofs.Truth.{and_split, and_intro}
use Rattle.trust.specs.Words.{word, sheet_in, sheet_count, sheets_in}
use Rattle.trust.specs.InLayout.{body_in_layout, start_word, length_word, bodies_from, in_layout, InLayout}
use Rattle.trust.proofs.RoundTrip.{part_there}

-- ---- what the layout says of the contents

numbers_below : (m i n : ℕ) → i + n ≤ m → All (λ k. k < m) (count_from i n)
unfolding count_from
numbers_below m i zero h = tt
numbers_below m i (suc n) h = (omega arith, numbers_below m (suc i) n (omega arith))

-- an entry that is there, and its part
pub record There (words : List ℕ) (k : ℕ) : Type 0 where
  pub number : k < sheet_count words
  pub entry : entry_of k + 2 ≤ length words
  pub part : start_word words k + length_word words k ≤ length words

-- the tests of one body and of those after it
record Bodies (words : List ℕ) (at k : ℕ) (ks : List ℕ) : Type 0 where
  start : T (eqb (start_word words k) at)
  size : T (leb (at + length_word words k) (length words))
  body : T (body_in_layout (sheet_part words k))
  later : T (bodies_from words (at + length_word words k) ks)

bodies_of : (words : List ℕ) (at k : ℕ) (ks : List ℕ) → T (bodies_from words at (k ∷ ks)) → Bodies words at k ks
unfolding bodies_from
bodies_of words at k ks t =
    let s = eqb (start_word words k) at in
    let i = leb (at + length_word words k) (length words) in
    let p = and_split (s && i && body_in_layout (sheet_part words k)) (bodies_from words (at + length_word words k) ks) t in
    let q = and_split (s && i) (body_in_layout (sheet_part words k)) p.0 in
    let r = and_split s i q.0 in
    record { start = r.0; size = r.1; body = q.1; later = p.1 }

all_there : (words : List ℕ) (at : ℕ) (ks : List ℕ) → entry_of (sheet_count words) ≤ length words → All (λ k. k < sheet_count words) ks → T (bodies_from words at ks) → All (There words) ks
all_there words at [] e h t = tt
all_there words at (k ∷ ks) e h t =
    let b = bodies_of words at k ks t in (
      record { number = h.0; entry = omega (arith, e, h.0); part = omega (arith, eqb→eq (start_word words k) at b.start, leb→le (at + length_word words k) (length words) b.size) },
      all_there words (at + length_word words k) ks e h.1 b.later,
    )

-- ---- with words behind

module _ (words rest : List ℕ) (four : 4 ≤ length words) where
  abbrev longer : List ℕ
  longer = words ++ rest

  word_same : (k : ℕ) → k < length words → word longer k ≡ word words k
  word_same k h = get_or-append words rest 0 k h

  start_same : (k : ℕ) → There words k → start_word longer k ≡ start_word words k
  start_same k t = word_same (entry_of k) (omega arith)

  length_same : (k : ℕ) → There words k → length_word longer k ≡ length_word words k
  length_same k t = word_same (entry_of k + 1) (omega arith)

  count_same : sheet_count longer ≡ sheet_count words
  count_same = word_same 0 (omega arith)

  more : length words ≤ length longer
  more = omega (arith, length-append words rest)

  part_same : (k : ℕ) → There words k → sheet_part longer k ≡ sheet_part words k
  part_same k t =
      let start = start_word words k in
      let size = length_word words k in
      part_there longer k (omega (arith, more)) (omega (arith, t.number, count_same)) (omega (arith, t.entry, more)) (omega (arith, t.part, start_same k t, length_same k t, more))
      ∙ (λ i. take (length_same k t i) (drop (start_same k t i) longer))
      ∙ ap (take size) (drop-append-le start words rest (omega (arith, t.part)))
      ∙ take-append-le size (drop start words) rest (omega (arith, t.part, length-drop start words))
      ∙ sym (part_there words k four t.number t.entry t.part)

  bodies_same : (at : ℕ) (ks : List ℕ) → All (There words) ks → T (bodies_from words at ks) → T (bodies_from longer at ks)
  unfolding bodies_from
  bodies_same at [] h t = tt
  bodies_same at (k ∷ ks) h t =
      let b = bodies_of words at k ks t in
      let fits : at + length_word words k ≤ length longer = omega (arith, more, leb→le (at + length_word words k) (length words) b.size) in
      rw (start_same k h.0, length_same k h.0, part_same k h.0)
      (and_intro (eqb (start_word words k) at && leb (at + length_word words k) (length longer) && body_in_layout (sheet_part words k)) (bodies_from longer (at + length_word words k) ks)
      (and_intro (eqb (start_word words k) at && leb (at + length_word words k) (length longer)) (body_in_layout (sheet_part words k))
      (and_intro (eqb (start_word words k) at) (leb (at + length_word words k) (length longer)) b.start (le→leb _ _ fits)) b.body)
      (bodies_same (at + length_word words k) ks h.1 b.later))

-- the tests of the whole
record Whole (words : List ℕ) : Type 0 where
  contents : entry_of (sheet_count words) ≤ length words
  code : T (ltb (word words 3) 2)
  bodies : T (bodies_from words (entry_of (sheet_count words)) (range (sheet_count words)))

whole : (words : List ℕ) → InLayout words → Whole words
unfolding in_layout
whole words t =
    let c = leb (entry_of (sheet_count words)) (length words) in
    let p = and_split (c && ltb (word words 3) 2) (bodies_from words (entry_of (sheet_count words)) (range (sheet_count words))) t in
    let q = and_split c (ltb (word words 3) 2) p.0 in
    record { contents = leb→le _ _ q.0; code = q.1; bodies = p.1 }

-- every sheet's entry and part are in the slice
pub sheets_there : (words : List ℕ) → InLayout words → All (There words) (range (sheet_count words))
sheets_there words t =
    let w = whole words t in
    all_there words (entry_of (sheet_count words)) (range (sheet_count words)) w.contents (numbers_below (sheet_count words) 0 (sheet_count words) (omega arith)) w.bodies

module _ (words rest : List ℕ) (t : InLayout words) where
  four : 4 ≤ length words
  four = omega (arith, (whole words t).contents)

  pub layout_longer : InLayout (words ++ rest)
  unfolding in_layout
  layout_longer =
      let w = whole words t in
      let n = sheet_count words in
      let contents : entry_of n ≤ length (words ++ rest) = omega (arith, w.contents, more words rest four) in
      rw (count_same words rest four, word_same words rest four 3 (omega (arith, four)))
      (and_intro (leb (entry_of n) (length (words ++ rest)) && ltb (word words 3) 2) (bodies_from (words ++ rest) (entry_of n) (range n))
      (and_intro (leb (entry_of n) (length (words ++ rest))) (ltb (word words 3) 2) (le→leb _ _ contents) w.code)
      (bodies_same words rest four (entry_of n) (range n) (sheets_there words t) w.bodies))

  pub sheets_longer : sheets_in (words ++ rest) ≡ sheets_in words
  unfolding sheets_in
  sheets_longer =
      ap (λ (n : ℕ). map (λ k. sheet_in (sheet_part (words ++ rest) k)) (range n)) (count_same words rest four)
      ∙ go (range (sheet_count words)) (sheets_there words t)
    where
      go : (ks : List ℕ) → All (There words) ks → map (λ k. sheet_in (sheet_part (words ++ rest) k)) ks ≡ map (λ k. sheet_in (sheet_part words k)) ks
      go [] h = refl
      go (k ∷ ks) h = λ i. sheet_in (part_same words rest four k h.0 i) ∷ go ks h.1 i
