-- The parts of a corpus, and its pairs one after the other.
use Rattle.std.proofs.Common.{◌≡◌, ℕ, zero, suc, ◌+◌, ◌≤◌, ◌<◌, List, [], ◌∷◌, length, take, drop, min, refl, sym, ap, ◌∙◌, arith, length-drop, le-ltb, lt-ltb}
use Rattle.std.specs.Prelude.{if◌then◌else◌, Bool, true, false, ltb, Option, Some}
use Rattle.std.specs.Option.{option_or}
use Rattle.std.specs.Int.{w32, from_le_bytes}
use lib.ListN.{drop_of_length-le}
use lib.Seq.{take_all}
use Rattle.vectors.specs.declared.Tally.{Tally}
use Rattle.vectors.specs.Replay.{first_part, behind_part, is_equal, counted, replayed}

-- ---- a part

take_min : (n : ℕ) (l : List ℕ) → take (min (length l) n) l ≡ take n l
take_min zero l = let on : min (length l) zero ≡ zero = omega arith in ap (λ k. take k l) on
take_min (suc n) [] = take_all (min 0 (suc n)) [] (omega arith)
take_min (suc n) (x ∷ l) = let on : min (length (x ∷ l)) (suc n) ≡ suc (min (length l) n) = omega arith in ap (λ k. take k (x ∷ l)) on ∙ ap (λ k. x ∷ k) (take_min n l)

drop_min : (n : ℕ) (l : List ℕ) → drop (min (length l) n) l ≡ drop n l
drop_min zero l = let on : min (length l) zero ≡ zero = omega arith in ap (λ k. drop k l) on
drop_min (suc n) [] = drop_of_length-le [] (omega arith)
drop_min (suc n) (x ∷ l) = let on : min (length (x ∷ l)) (suc n) ≡ suc (min (length l) n) = omega arith in ap (λ k. drop k (x ∷ l)) on ∙ drop_min n l

module _ (corpus : List ℕ) where
  -- with the length in front of it
  module _ (long : 4 ≤ length corpus) (size rest : List ℕ) (s : size ≡ take 4 corpus) (r : rest ≡ drop 4 corpus) where
    pub part_there : take (min (length rest) (from_le_bytes w32 size)) rest ≡ first_part corpus
    unfolding first_part
    part_there = take_min (from_le_bytes w32 size) rest ∙ rw (s, r, le-ltb (length corpus) 4 long)

    pub behind_there : drop (min (length rest) (from_le_bytes w32 size)) rest ≡ behind_part corpus
    unfolding behind_part
    behind_there = drop_min (from_le_bytes w32 size) rest ∙ rw (s, r, le-ltb (length corpus) 4 long)

  -- too short for it
  pub part_none : length corpus < 4 → [] ≡ first_part corpus
  unfolding first_part
  part_none h = rw (lt-ltb (length corpus) 4 h)

  pub behind_none : length corpus < 4 → [] ≡ behind_part corpus
  unfolding behind_part
  behind_none h = rw (lt-ltb (length corpus) 4 h)

  -- a part makes what is left shorter, unless nothing was
  pub behind_shorter : (length (behind_part corpus) ≤ length corpus) × (0 < length corpus → length (behind_part corpus) < length corpus)
  unfolding behind_part
  behind_shorter = go (ltb (length corpus) 4)
    where
      go : (b : Bool) → ((length (if b then [] else drop (from_le_bytes w32 (take 4 corpus)) (drop 4 corpus)) ≤ length corpus)
          × (0 < length corpus → length (if b then [] else drop (from_le_bytes w32 (take 4 corpus)) (drop 4 corpus)) < length corpus))
      go true = (omega arith, λ h. omega arith)
      go false =
          let n : ℕ = from_le_bytes w32 (take 4 corpus) in
          let rest = length-drop n (drop 4 corpus) in
          let all = length-drop 4 corpus in
          (omega arith, λ h. omega arith)

-- ---- the pairs

module _ (tally : Tally) (rest : List ℕ) where
  pub pair_next : (n m : ℕ) → n ≡ suc m → 0 < length rest
      → replayed n tally rest ≡ replayed m (counted tally (is_equal (first_part rest) (first_part (behind_part rest)))) (behind_part (behind_part rest))
  unfolding replayed
  pair_next n m e h = ap (λ k. replayed k tally rest) e ∙ go rest h
    where
      go : (rest : List ℕ) → 0 < length rest
          → replayed (suc m) tally rest ≡ replayed m (counted tally (is_equal (first_part rest) (first_part (behind_part rest)))) (behind_part (behind_part rest))
      go [] h = absurd (omega arith)
      go (b ∷ bytes) h = refl

  pub pair_none : (n : ℕ) → length rest ≡ 0 → replayed n tally rest ≡ tally
  unfolding replayed
  pair_none n e = go n rest e
    where
      go : (n : ℕ) (rest : List ℕ) → length rest ≡ 0 → replayed n tally rest ≡ tally
      go zero rest e = refl
      go (suc n) [] e = refl
      go (suc n) (b ∷ bytes) e = absurd (omega arith)

-- the rest behind a pair is shorter
pub two_shorter : (rest mid last : List ℕ) → mid ≡ behind_part rest → last ≡ behind_part mid → 0 < length rest → length last < length rest
two_shorter rest mid last e f h =
    let a = behind_shorter rest in
    let b = behind_shorter mid in
    let first : length mid < length rest = omega (arith, a.1 h, ap length e) in
    omega (arith, b.0, ap length f)

module _ (tally : Tally) (rest file mid text last : List ℕ) (n m : ℕ) (more : n ≡ suc m) (some : 0 < length rest)
    (f : file ≡ first_part rest) (g : mid ≡ behind_part rest) (t : text ≡ first_part mid) (l : last ≡ behind_part mid) where
  pair : (b : Bool) → is_equal file text ≡ b → replayed n tally rest ≡ replayed m (counted tally b) last
  pair b e = pair_next tally rest n m more some ∙ rw (← g, ← f, ← t, ← l, e)

  pub pair_equal : is_equal file text ≡ true → replayed n tally rest ≡ replayed m (record { pairs = tally.pairs + 1; equal = tally.equal + 1; first_other = tally.first_other }) last
  unfolding counted
  pair_equal e = pair true e

  pub pair_other : is_equal file text ≡ false → (o : Option ℕ) → o ≡ option_or tally.first_other (Some (tally.pairs + 1))
      → replayed n tally rest ≡ replayed m (record { pairs = tally.pairs + 1; equal = tally.equal; first_other = o }) last
  unfolding counted
  pair_other e o p = pair false e ∙ ap (λ (o : Option ℕ). replayed m (record { pairs = tally.pairs + 1; equal = tally.equal; first_other = o }) last) (sym p)
