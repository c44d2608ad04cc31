-- What a word says, its digits and its place in a table; and where a text is cut.
use Rattle.std.proofs.Common.{◌≡◌, refl, sym, ap, ◌∙◌, ℕ, suc, ◌+◌, ◌-◌, ◌*◌, ◌≤◌, ◌<◌, Bool, true, false, cond, ◌&&◌, List, [], ◌∷◌, length, get_or, map, take, drop, ltb, Option, Some, None, leb, bytes_eq, Bor, arith, add-one, drop-cons, if◌then◌else◌}
use Rattle.std.specs.List.{position, position_from, position_or_len, before_first, find}
use Rattle.std.specs.Int.{from_bool}
use Rattle.std.specs.Option.{unwrap_or, option_map}
use Rattle.std.proofs.lemmas.Option.{some_pair_parts}
use Rattle.lists.specs.Base.{is_empty}
use Rattle.lists.proofs.Booleans.{both}
use Rattle.typed.specs.Words.{first_word, after_word, read_digits, decimal_value, code_in}
use Rattle.typed.specs.Lines.{found, choice, says, passed, turn}
use Rattle.words.specs.Ascii.{ascii}
use borrow.Author.Tests.{le-leb, leb-true, ltb-false}
use lib.ListN.{drop_of_length-le}
use lib.Seq.{take_all}

-- ---- digits

abbrev digit : ℕ → ℕ → ℕ → Bool
digit most n c = leb 48 c && leb c 57 && leb (10 * n + (c - 48)) most

module _ (most n c : ℕ) where
  pub digit_good : 48 ≤ c → c ≤ 57 → 10 * n + (c - 48) ≤ most → read_digits most n (c ∷ []) ≡ Some (10 * n + (c - 48))
  unfolding read_digits
  digit_good a b d = rw (le-leb _ _ a, le-leb _ _ b, le-leb _ _ d)

  pub digit_bad : (48 ≤ c → c ≤ 57 → 10 * n + (c - 48) ≤ most → ⊥) → read_digits most n (c ∷ []) ≡ None
  unfolding read_digits
  digit_bad h = go (digit most n c) refl
    where
      go : (t : Bool) → digit most n c ≡ t → (if t then Some (10 * n + (c - 48)) else None) ≡ None
      go true e =
          let p = both (leb 48 c && leb c 57) (leb (10 * n + (c - 48)) most) e in
          let q = both (leb 48 c) (leb c 57) p.0 in
          absurd (h (leb-true _ _ q.0) (leb-true _ _ q.1) (leb-true _ _ p.1))
      go false e = refl

  pub digit_next : (m : ℕ) (cs : List ℕ) → read_digits most n (c ∷ []) ≡ Some m → read_digits most n (c ∷ cs) ≡ read_digits most m cs
  unfolding read_digits
  digit_next m cs e = go (digit most n c) e
    where
      go : (t : Bool) → (if t then Some (10 * n + (c - 48)) else None) ≡ Some m → (if t then read_digits most (10 * n + (c - 48)) cs else None) ≡ read_digits most m cs
      go true e = let f : 10 * n + (c - 48) ≡ m = cc in ap (λ (k : ℕ). read_digits most k cs) f
      go false e = cc

  pub digit_stop : (cs : List ℕ) → read_digits most n (c ∷ []) ≡ None → read_digits most n (c ∷ cs) ≡ None
  unfolding read_digits
  digit_stop cs e = go (digit most n c) e
    where
      go : (t : Bool) → (if t then Some (10 * n + (c - 48)) else None) ≡ None → (if t then read_digits most (10 * n + (c - 48)) cs else None) ≡ None
      go true e = cc
      go false e = refl

  pub digit_most : (m : ℕ) → read_digits most n (c ∷ []) ≡ Some m → m ≤ most
  unfolding read_digits
  digit_most m e = go (digit most n c) refl e
    where
      go : (t : Bool) → digit most n c ≡ t → (if t then Some (10 * n + (c - 48)) else None) ≡ Some m → m ≤ most
      go true d e =
          let f : 10 * n + (c - 48) ≡ m = cc in
          omega (arith, f, leb-true (10 * n + (c - 48)) most (both (leb 48 c && leb c 57) (leb (10 * n + (c - 48)) most) d).1)
      go false d e = cc

module _ (most : ℕ) (w : List ℕ) where
  pub number_none : length w ≤ 0 → decimal_value most w ≡ None
  unfolding decimal_value
  number_none h = go w h
    where
      go : (l : List ℕ) → length l ≤ 0 → decimal_value most l ≡ None
      go [] h = refl
      go (x ∷ l) h = absurd (omega arith)

  pub number_some : 0 < length w → decimal_value most w ≡ read_digits most 0 w
  unfolding decimal_value
  number_some h = go w h
    where
      go : (l : List ℕ) → 0 < length l → decimal_value most l ≡ read_digits most 0 l
      go [] h = absurd (omega arith)
      go (x ∷ l) h = refl

  module _ (n i : ℕ) (h : i < length w) where
    pub digits_next : (m : ℕ) → read_digits most n (get_or w i 0 ∷ []) ≡ Some m → read_digits most n (drop i w) ≡ read_digits most m (drop (i + 1) w)
    digits_next m e = rw (drop-cons w i 0 h, add-one) (digit_next most n (get_or w i 0) m (drop (suc i) w) e)

    pub digits_stop : read_digits most n (get_or w i 0 ∷ []) ≡ None → read_digits most n (drop i w) ≡ None
    digits_stop e = rw (drop-cons w i 0 h) (digit_stop most n (get_or w i 0) (drop (suc i) w) e)

  pub digits_end : (n i : ℕ) → length w ≤ i → read_digits most n (drop i w) ≡ Some n
  unfolding read_digits
  digits_end n i h = rw (drop_of_length-le w h)

-- ---- tables

pub code_position : {A : Type 0} (v : A → List ℕ) (k : ℕ) (table : List A) (w : List ℕ) → position_from (λ t. bytes_eq w (v t)) k table ≡ code_in k (map v table) w
unfolding code_in
code_position v k [] w = refl
code_position v k (t ∷ ts) w = go (bytes_eq w (v t)) (code_position v (k + 1) ts w)
  where
    go : (b : Bool) → position_from (λ t. bytes_eq w (v t)) (k + 1) ts ≡ code_in (k + 1) (map v ts) w
        → cond b (Some k) (position_from (λ t. bytes_eq w (v t)) (k + 1) ts) ≡ (if b then Some k else code_in (k + 1) (map v ts) w)
    go true e = refl
    go false e = e

-- ---- the place of the first byte that passes a test

module _ (p : ℕ → Bool) (l : List ℕ) (n : ℕ) (e : n ≡ unwrap_or (position p l) (length l)) where
  pub cut_take : take n l ≡ before_first p l
  cut_take = rw e (go (ltb (position_or_len p l) (length l)) refl)
    where
      go : (t : Bool) → ltb (position_or_len p l) (length l) ≡ t → take (unwrap_or (cond t (Some (position_or_len p l)) None) (length l)) l ≡ take (position_or_len p l) l
      go true f = refl
      go false f = take_all (length l) l (omega arith) ∙ sym (take_all (position_or_len p l) l (omega (arith, ltb-false _ _ f)))

  pub cut_drop : drop n l ≡ drop (position_or_len p l) l
  cut_drop = rw e (go (ltb (position_or_len p l) (length l)) refl)
    where
      go : (t : Bool) → ltb (position_or_len p l) (length l) ≡ t → drop (unwrap_or (cond t (Some (position_or_len p l)) None) (length l)) l ≡ drop (position_or_len p l) l
      go true f = refl
      go false f = drop_of_length-le l (omega arith) ∙ sym (drop_of_length-le l (omega (arith, ltb-false _ _ f)))

-- ---- a word of a table of two, counted from one on

module _ (a b rest : List ℕ) where
  pub choice_from_one : (n : ℕ) (left : List ℕ) → choice 0 (a ∷ b ∷ []) rest ≡ Some (n, left) → (choice 1 (a ∷ b ∷ []) rest ≡ Some (1 + n, left)) × (n ≤ 1)
  unfolding code_in
  choice_from_one n left e = go (bytes_eq (first_word rest) a) (bytes_eq (first_word rest) b) e
    where
      go : (s t : Bool) → found (if s then Some 0 else (if t then Some 1 else None)) rest ≡ Some (n, left)
          → (found (if s then Some 1 else (if t then Some 2 else None)) rest ≡ Some (1 + n, left)) × (n ≤ 1)
      go true t e = let p = some_pair_parts _ _ _ _ e in rw (← p.0, p.1) (refl, omega arith)
      go false true e = let p = some_pair_parts _ _ _ _ e in rw (← p.0, p.1) (refl, omega arith)
      go false false e = cc

  pub choice_from_one-none : choice 0 (a ∷ b ∷ []) rest ≡ None → choice 1 (a ∷ b ∷ []) rest ≡ None
  unfolding code_in
  choice_from_one-none e = go (bytes_eq (first_word rest) a) (bytes_eq (first_word rest) b) e
    where
      go : (s t : Bool) → found (if s then Some 0 else (if t then Some 1 else None)) rest ≡ None → found (if s then Some 1 else (if t then Some 2 else None)) rest ≡ None
      go true t e = cc
      go false true e = cc
      go false false e = refl

-- ---- a word, and none

pub is_empty_none : (w : List ℕ) → length w ≤ 0 → is_empty w ≡ true
is_empty_none [] h = refl
is_empty_none (x ∷ w) h = absurd (omega arith)

pub is_empty_some : (w : List ℕ) → 0 < length w → is_empty w ≡ false
is_empty_some [] h = absurd (omega arith)
is_empty_some (x ∷ w) h = refl

-- ---- the second part of the first entry whose first part is a word

abbrev pub named : {K : Type 0} → List ℕ → List (Bor (List ℕ) × K) → Option K
named w [] = None
named w (e ∷ es) = if bytes_eq w e.0.now then Some e.1 else named w es

module _ {K : Type 0} (w : List ℕ) where
  abbrev second : Option (Bor (List ℕ) × K) → Option K
  second o = option_map (λ e. e.1) o

  abbrev entry : List (Bor (List ℕ) × K) → Option (Bor (List ℕ) × K)
  entry es = find (λ e. bytes_eq w e.0.now) es

  second_named : (es : List (Bor (List ℕ) × K)) → second (entry es) ≡ named w es
  second_named [] = refl
  second_named (e ∷ es) = go (bytes_eq w e.0.now) (second_named es)
    where
      go : (t : Bool) → second (entry es) ≡ named w es → second (cond t (Some e) (entry es)) ≡ (if t then Some e.1 else named w es)
      go true h = refl
      go false h = h

  pub named_found : (es fs : List (Bor (List ℕ) × K)) (o : Option (Bor (Bor (List ℕ) × K))) → es ≡ fs → option_map (λ e. e.now) o ≡ entry es → option_map (λ e. e.now.1) o ≡ named w fs
  named_found es fs o e f = go o ∙ ap second f ∙ second_named es ∙ ap (named w) e
    where
      go : (o : Option (Bor (Bor (List ℕ) × K))) → option_map (λ e. e.now.1) o ≡ second (option_map (λ e. e.now) o)
      go None = refl
      go (Some x) = refl

-- ---- a word passed

pub skipped : (word rest left : List ℕ) → left ≡ passed word rest → says word rest ≡ true → (choice 0 (word ∷ []) rest ≡ Some (0, left)) × (left ≡ after_word rest)
unfolding code_in
skipped word rest left e t = (rw (e, t), rw (e, t))

pub not_skipped : (word rest left : List ℕ) → left ≡ passed word rest → says word rest ≡ false → (choice 0 (word ∷ []) rest ≡ None) × (left ≡ rest)
unfolding code_in
not_skipped word rest left e t = (rw t, rw (e, t))

-- a panel's last word
pub turned : (rest left : List ℕ) (b : Bool) → b ≡ says (ascii "turn") rest → left ≡ passed (ascii "turn") rest → turn rest ≡ Some (from_bool b, left)
turned rest left true e l = rw (skipped (ascii "turn") rest left l (sym e)).0
turned rest left false e l = let kept = not_skipped (ascii "turn") rest left l (sym e) in rw (kept.0, kept.1)
