-- Insertions and unused cuts pushed one after the other, as the loops push them.
use Rattle.std.specs.Prelude.{if◌then◌else◌, ◌==◌, position, Some}
use Rattle.std.specs.List.{position_or_len}
use Rattle.std.proofs.lemmas.Bool.{lt-ltb}
use Rattle.std.proofs.lemmas.List.Recursion.{is_position_or_len}
use Prim.Native.Nat.{ℕ, suc, ◌+◌, ◌≤◌, ◌<◌}
use native.Mathlib.Numerals.{add-one}
use native.Mathlib.Omega.{arith}
use mathlib.Core.Path.{◌≡◌, refl, sym, ap, ◌∙◌}
use mathlib.Core.Bool.{Bool, true, false, not}
use mathlib.Core.List.{List, [], ◌∷◌, ◌++◌, map, append-nil, append_assoc}
use lib.Dec.{eqb}
use lib.ListN.{length, get_or, take, length-append}
use Rattle.lists.specs.Base.{retain, count_from, range}
use Rattle.lists.proofs.Sums.{length-map, length_count_from, map_append}
use Rattle.lists.proofs.Kept.{retain_append, length_retain}
use Rattle.lists.proofs.Counts.{count_snoc}
use Rattle.lists.proofs.Arrays.{take_next}
use Rattle.model.specs.declared.BaselineGuillotineHeuristic.{BaselineGuillotineHeuristic}
use Rattle.candidate.specs.declared.Candidate.{Candidate as Words}
use Rattle.candidate.specs.Entries.{board_of, cut_of, on_board}
use Rattle.candidate.specs.Moves.{with_insertion, with_unused}
use Rattle.candidate.specs.Stands.{placed_words, unused_numbers}
use Rattle.candidate.proofs.Makings.{on_same, on_other}
use Rattle.candidate.specs.Keys.{elem}
use Rattle.candidate.specs.Donated.{with_insertions, with_unused_cuts, anew, donated, others_than, place_among}

-- ---- one push more

pub insertions_more : (k : Words) (words : List ℕ) (w : ℕ) → with_insertions k (words ++ (w ∷ [])) ≡ with_insertion (with_insertions k words) w
unfolding with_insertions with_insertion
insertions_more k words w = λ j. record { boards = k.boards; sheets = k.sheets; insertions = record { items = sym (append_assoc (placed_words k) words (w ∷ [])) j }; unused = k.unused }

pub unused_more : (k : Words) (cuts : List ℕ) (x : ℕ) → with_unused_cuts k (cuts ++ (x ∷ [])) ≡ with_unused (with_unused_cuts k cuts) x
unfolding with_unused_cuts with_unused
unused_more k cuts x = λ j. record { boards = k.boards; sheets = k.sheets; insertions = k.insertions; unused = record { items = sym (append_assoc (unused_numbers k) cuts (x ∷ [])) j } }

-- ---- the loop over the donor's insertions

pub cut_small : (w : ℕ) → cut_of w < 64
unfolding cut_of
cut_small w = omega arith

pub no_insertions : (k : Words) (board : ℕ) (h : BaselineGuillotineHeuristic) → k ≡ with_insertions k (donated [] board h)
unfolding with_insertions donated on_board retain
no_insertions k board h = λ i. record { boards = k.boards; sheets = k.sheets; insertions = record { items = sym (append-nil (placed_words k)) i }; unused = k.unused }

pub insertions_few : (k : Words) (words : List ℕ) (board : ℕ) (h : BaselineGuillotineHeuristic)
    → length (placed_words (with_insertions k (donated words board h))) ≤ length (placed_words k) + length words
unfolding with_insertions donated on_board
insertions_few k words board h =
    let on : List ℕ = on_board board words in
    omega (arith, length-append (placed_words k) (map (anew board h) on), length-map (anew board h) on, length_retain (λ w. eqb (board_of w) board) words)

module _ (k : Words) (words : List ℕ) (board i : ℕ) (h : BaselineGuillotineHeuristic) (here : i < length words) where
  abbrev word : ℕ
  word = get_or words i 0

  pub donated_here : board_of word ≡ board → with_insertion (with_insertions k (donated (take i words) board h)) (anew board h word) ≡ with_insertions k (donated (take (i + 1) words) board h)
  unfolding with_insertion with_insertions donated
  donated_here there =
      let before : List ℕ = on_board board (take i words) in
      let on : on_board board (take (i + 1) words) ≡ before ++ (word ∷ []) = ap (on_board board) (take_next words i 0 here) ∙ on_same (take i words) word board there in
      let items : (placed_words k ++ map (anew board h) before) ++ (anew board h word ∷ []) ≡ placed_words k ++ map (anew board h) (on_board board (take (i + 1) words)) =
      append_assoc (placed_words k) (map (anew board h) before) (anew board h word ∷ [])
      ∙ ap (λ (l : List ℕ). placed_words k ++ l) (sym (ap (map (anew board h)) on ∙ map_append (anew board h) before (word ∷ [])))
      in
      λ j. record { boards = k.boards; sheets = k.sheets; insertions = record { items = items j }; unused = k.unused }

  pub donated_aside : (board_of word ≡ board → ⊥) → with_insertions k (donated (take i words) board h) ≡ with_insertions k (donated (take (i + 1) words) board h)
  unfolding donated
  donated_aside aside = ap (λ (l : List ℕ). with_insertions k (map (anew board h) l)) (sym (ap (on_board board) (take_next words i 0 here) ∙ on_other (take i words) word board aside))

-- ---- the loop over the catalogue

pub no_others : (k : Words) (ks : List ℕ) → k ≡ with_unused_cuts k (others_than ks 0)
unfolding with_unused_cuts others_than count_from retain
no_others k ks = λ i. record { boards = k.boards; sheets = k.sheets; insertions = k.insertions; unused = record { items = sym (append-nil (unused_numbers k)) i } }

pub others_few : (k : Words) (ks : List ℕ) (n : ℕ) → length (unused_numbers (with_unused_cuts k (others_than ks n))) ≤ length (unused_numbers k) + n
unfolding with_unused_cuts others_than
others_few k ks n = omega (arith, length-append (unused_numbers k) (others_than ks n), length_retain (λ x. not (elem x ks)) (range n), length_count_from 0 n)

module _ (k : Words) (ks : List ℕ) (i : ℕ) where
  others_next : (b : Bool) → elem i ks ≡ b → others_than ks (i + 1) ≡ others_than ks i ++ (if not b then i ∷ [] else [])
  unfolding others_than retain
  others_next b e =
      let p : ℕ → Bool = λ x. not (elem x ks) in
      let z : 0 + i ≡ i = omega arith in
      ap (λ (n : ℕ). retain p (range n)) (add-one i)
      ∙ ap (retain p) (count_snoc 0 i ∙ ap (λ (m : ℕ). range i ++ (m ∷ [])) z)
      ∙ retain_append p (range i) (i ∷ [])
      ∙ ap (λ (t : Bool). retain p (range i) ++ (if not t then i ∷ [] else [])) e

  pub others_more : elem i ks ≡ false → with_unused (with_unused_cuts k (others_than ks i)) i ≡ with_unused_cuts k (others_than ks (i + 1))
  unfolding with_unused with_unused_cuts
  others_more e =
      let items : (unused_numbers k ++ others_than ks i) ++ (i ∷ []) ≡ unused_numbers k ++ others_than ks (i + 1) =
      append_assoc (unused_numbers k) (others_than ks i) (i ∷ []) ∙ ap (λ (l : List ℕ). unused_numbers k ++ l) (sym (others_next false e))
      in
      λ j. record { boards = k.boards; sheets = k.sheets; insertions = k.insertions; unused = record { items = items j } }

  pub others_same : elem i ks ≡ true → with_unused_cuts k (others_than ks i) ≡ with_unused_cuts k (others_than ks (i + 1))
  others_same e = ap (with_unused_cuts k) (sym (others_next true e ∙ append-nil (others_than ks i)))

-- ---- the place of a board

index_next : (x y : ℕ) (ys : List ℕ) → place_among x (y ∷ ys) ≡ (if y == x then 0 else (1 + place_among x ys))
unfolding place_among
index_next x y ys = let one : suc (place_among x ys) ≡ 1 + place_among x ys = omega arith in ap (λ (n : ℕ). if y == x then 0 else n) one

-- `position` of the language
pub position_is : (x : ℕ) (l : List ℕ) → place_among x l < length l → position (λ b. b == x) l ≡ Some (place_among x l)
unfolding place_among
position_is x l h =
    let same : place_among x l ≡ position_or_len (λ b. b == x) l = is_position_or_len (place_among x) (λ b. b == x) refl (index_next x) l in
    rw (← same) (rw (lt-ltb (place_among x l) (length l) h) refl)
