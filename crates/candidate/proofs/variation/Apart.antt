-- A sheet taken apart: the loop sends each insertion to the kept ones or its cut to the unused ones.
use Rattle.std.specs.Prelude.{if◌then◌else◌}
use Prim.Native.Nat.{ℕ, ◌+◌, ◌≤◌, ◌<◌}
use native.Mathlib.Omega.{arith}
use mathlib.Core.Path.{◌≡◌, sym, ap, ◌∙◌}
use mathlib.Core.Bool.{Bool, true, false, not}
use mathlib.Core.List.{List, [], ◌∷◌, ◌++◌, map, append-nil, append_assoc}
use lib.Dec.{eqb}
use lib.ListN.{length, get_or, take, length-append}
use borrow.Author.Tests.{eq-eqb, ne_eqb}
use Rattle.lists.specs.Base.{retain}
use Rattle.lists.proofs.Sums.{length-map, map_append}
use Rattle.lists.proofs.Kept.{retain_append, length_retain}
use Rattle.lists.proofs.Arrays.{take_next}
use Rattle.candidate.specs.declared.Candidate.{Candidate as Words}
use Rattle.candidate.specs.Entries.{board_of, cut_of, on_board}
use Rattle.candidate.specs.Moves.{with_insertion, with_unused}
use Rattle.candidate.specs.Stands.{placed_words, unused_numbers}
use Rattle.candidate.proofs.Makings.{on_same, on_other}
use Rattle.candidate.specs.Compact.{off_board, apart}

-- a candidate whose insertions so far are sorted out
unfoldable pub sorted : Words → ℕ → List ℕ → Words
sorted c board words =
    record {
      boards = c.boards;
      sheets = c.sheets;
      insertions = record { items = off_board board words };
      unused = record { items = unused_numbers c ++ map cut_of (on_board board words) };
    }

pub sorted_none : (c : Words) (board : ℕ) → record { boards = c.boards; sheets = c.sheets; insertions = record { items = [] }; unused = c.unused } ≡ sorted c board []
unfolding sorted off_board on_board retain
sorted_none c board = λ i. record { boards = c.boards; sheets = c.sheets; insertions = record { items = [] }; unused = record { items = sym (append-nil (unused_numbers c)) i } }

pub sorted_all : (c : Words) (board : ℕ) (words : List ℕ) → words ≡ placed_words c → sorted c board words ≡ apart c board
unfolding sorted apart
sorted_all c board words e = ap (sorted c board) e

-- the unused cuts so far leave room for one more
pub sorted_few : (c : Words) (board : ℕ) (words : List ℕ) → length (unused_numbers (sorted c board words)) ≤ length (unused_numbers c) + length words
unfolding sorted on_board
sorted_few c board words =
    let on : List ℕ = on_board board words in
    omega (arith, length-append (unused_numbers c) (map cut_of on), length-map cut_of on, length_retain (λ w. eqb (board_of w) board) words)

-- the insertions so far do, too
pub kept_few : (c : Words) (board : ℕ) (words : List ℕ) → length (placed_words (sorted c board words)) ≤ length words
unfolding sorted off_board
kept_few c board words = length_retain (λ w. not (eqb (board_of w) board)) words

-- ---- one more insertion

module _ (c : Words) (board : ℕ) (words : List ℕ) (i : ℕ) (here : i < length words) where
  abbrev word : ℕ
  word = get_or words i 0

  abbrev before : List ℕ
  before = take i words

  off_one : (b : Bool) → eqb (board_of word) board ≡ b → off_board board (take (i + 1) words) ≡ off_board board before ++ (if not b then word ∷ [] else [])
  unfolding off_board retain
  off_one b e =
      let p : ℕ → Bool = λ w. not (eqb (board_of w) board) in
      ap (retain p) (take_next words i 0 here)
      ∙ retain_append p before (word ∷ [])
      ∙ ap (λ (t : Bool). retain p before ++ (if not t then word ∷ [] else [])) e

  -- on the board
  pub sorted_out : board_of word ≡ board → with_unused (sorted c board before) (cut_of word) ≡ sorted c board (take (i + 1) words)
  unfolding sorted with_unused
  sorted_out there =
      let off : off_board board (take (i + 1) words) ≡ off_board board before = off_one true (eq-eqb _ _ there) ∙ append-nil _ in
      let on : on_board board (take (i + 1) words) ≡ on_board board before ++ (word ∷ []) = ap (on_board board) (take_next words i 0 here) ∙ on_same before word board there in
      let cuts : (unused_numbers c ++ map cut_of (on_board board before)) ++ (cut_of word ∷ []) ≡ unused_numbers c ++ map cut_of (on_board board (take (i + 1) words)) =
      append_assoc (unused_numbers c) (map cut_of (on_board board before)) (cut_of word ∷ [])
      ∙ ap (λ (l : List ℕ). unused_numbers c ++ l) (sym (ap (map cut_of) on ∙ map_append cut_of (on_board board before) (word ∷ [])))
      in
      λ j. record { boards = c.boards; sheets = c.sheets; insertions = record { items = sym off j }; unused = record { items = cuts j } }

  -- on another
  pub sorted_kept : (board_of word ≡ board → ⊥) → with_insertion (sorted c board before) word ≡ sorted c board (take (i + 1) words)
  unfolding sorted with_insertion
  sorted_kept aside =
      let off : off_board board (take (i + 1) words) ≡ off_board board before ++ (word ∷ []) = off_one false (ne_eqb _ _ aside) in
      let on : on_board board (take (i + 1) words) ≡ on_board board before = ap (on_board board) (take_next words i 0 here) ∙ on_other before word board aside in
      λ j. record {
        boards = c.boards;
        sheets = c.sheets;
        insertions = record { items = sym off j };
        unused = record { items = ap (λ (l : List ℕ). unused_numbers c ++ map cut_of l) (sym on) j };
      }
