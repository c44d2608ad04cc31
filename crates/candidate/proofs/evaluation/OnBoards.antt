-- The areas on the boards, as the loop over the insertions sums them up.
use Rattle.std.specs.Prelude.{if◌then◌else◌}
use Prim.Native.Nat.{ℕ, ◌+◌, ◌≤◌, ◌<◌}
use native.Mathlib.Omega.{arith}
use mathlib.Core.Path.{◌≡◌, refl, sym, ap, ◌∙◌}
use mathlib.Core.Bool.{Bool, true, false}
use mathlib.Core.List.{List, [], ◌∷◌, map}
use lib.Dec.{eqb}
use lib.ListN.{length, get_or, set, take, length-set}
use lib.Seq.{take-length, get_or-set_same, get_or-set_other, ext_get_or}
use borrow.Author.Tests.{eq-eqb, ne_eqb, eqb-true, eqb-false}
use Rattle.lists.specs.Base.{sum, range, retain}
use Rattle.lists.proofs.Sums.{sum_append}
use Rattle.lists.proofs.Kept.{retain_append, sum_retain}
use Rattle.lists.proofs.Counts.{get_or_range, length_count_map}
use Rattle.lists.proofs.Arrays.{sum_take, take_next}
use Rattle.model.specs.Expand.{ProblemInstance}
use Rattle.candidate.specs.Entries.{board_of, on_board}
use Rattle.candidate.specs.OnSheets.{word_area, placed_on}

-- ---- one more insertion

module _ (inst : ProblemInstance) (words : List ℕ) (i board : ℕ) (here : i < length words) where
  abbrev word : ℕ
  word = get_or words i 0

  placed_one : (b : Bool) → eqb (board_of word) board ≡ b → placed_on inst (take (i + 1) words) board ≡ placed_on inst (take i words) board + (if b then word_area inst word else 0)
  unfolding placed_on on_board retain sum
  placed_one b e =
      let p : ℕ → Bool = λ w. eqb (board_of w) board in
      let f : ℕ → ℕ = word_area inst in
      ap (λ (l : List ℕ). sum (map f (retain p l))) (take_next words i 0 here)
      ∙ ap (λ (l : List ℕ). sum (map f l)) (retain_append p (take i words) (word ∷ []))
      ∙ sum_append f (retain p (take i words)) (retain p (word ∷ []))
      ∙ ap (λ (n : ℕ). sum (map f (retain p (take i words))) + n) (one b e)
    where
      one : (b : Bool) → eqb (board_of word) board ≡ b → sum (map (word_area inst) (if eqb (board_of word) board then word ∷ [] else [])) ≡ (if b then word_area inst word else 0)
      one true e = rw e (omega arith)
      one false e = rw e

  pub placed_here : board_of word ≡ board → placed_on inst (take (i + 1) words) board ≡ placed_on inst (take i words) board + word_area inst word
  placed_here e = placed_one true (eq-eqb _ _ e)

  pub placed_elsewhere : (board_of word ≡ board → ⊥) → placed_on inst (take (i + 1) words) board ≡ placed_on inst (take i words) board
  placed_elsewhere e = placed_one false (ne_eqb _ _ e) ∙ omega arith

pub placed_most : (inst : ProblemInstance) (words : List ℕ) (n board : ℕ) → placed_on inst (take n words) board ≤ sum (map (word_area inst) words)
unfolding placed_on on_board
placed_most inst words n board = omega (arith, sum_retain (word_area inst) (λ w. eqb (board_of w) board) (take n words), sum_take (word_area inst) n words)

-- ---- the loop

abbrev pub Summed : ProblemInstance → List ℕ → List ℕ → Type 0
Summed inst words areas = (length areas ≡ 64) × ((b : ℕ) → b < 64 → get_or areas b 0 ≡ placed_on inst words b)

pub summed_none : (inst : ProblemInstance) (words areas : List ℕ) → length areas ≡ 64 → ((b : ℕ) → b < 64 → get_or areas b 0 ≡ 0) → Summed inst (take 0 words) areas
unfolding placed_on on_board retain sum
summed_none inst words areas e h = (e, h)

module _ (inst : ProblemInstance) (words areas : List ℕ) (i board area : ℕ) (here : i < length words) (at_board : board ≡ board_of (get_or words i 0)) (of_cut : area ≡ word_area inst (get_or words i 0))
    (known : board < 64) (so_far : Summed inst (take i words) areas) where
  abbrev next : ℕ
  next = get_or areas board 0 + area

  grown : placed_on inst (take (i + 1) words) board ≡ next
  grown = omega (arith, so_far.1 board known, placed_here inst words i board here (sym at_board))

  pub summed_most : next ≤ sum (map (word_area inst) words)
  summed_most = omega (arith, grown, placed_most inst words (i + 1) board)

  pub summed_more : Summed inst (take (i + 1) words) (set areas board next)
  summed_more = (simp length-set so_far.0, λ b h. at b h (eqb b board) refl)
    where
      at : (b : ℕ) → b < 64 → (t : Bool) → eqb b board ≡ t → get_or (set areas board next) b 0 ≡ placed_on inst (take (i + 1) words) b
      at b h true e =
          let same : b ≡ board = eqb-true b board e in
          let room : board < length areas = omega (arith, so_far.0) in
          ap (λ (n : ℕ). get_or (set areas board next) n 0) same ∙ get_or-set_same areas board next 0 room ∙ sym grown ∙ ap (placed_on inst (take (i + 1) words)) (sym same)
      at b h false e =
          let apart : board_of (get_or words i 0) ≡ b → ⊥ = λ q. eqb-false b board e (sym q ∙ sym at_board) in
          get_or-set_other areas board b next 0 (eqb-false b board e) ∙ so_far.1 b h ∙ sym (placed_elsewhere inst words i b here apart)

pub summed_all : (inst : ProblemInstance) (words areas : List ℕ) (i : ℕ) → length words ≤ i → i ≤ length words → Summed inst (take i words) areas → areas ≡ map (placed_on inst words) (range 64)
summed_all inst words areas i past most h =
    let e : i ≡ length words = omega arith in
    let whole : take i words ≡ words = ap (λ (n : ℕ). take n words) e ∙ take-length words in
    ext_get_or 0 areas (map (placed_on inst words) (range 64)) (h.0 ∙ sym (length_count_map (placed_on inst words) 0 64)) λ b k.
    let under : b < 64 = omega (arith, h.0) in
    h.1 b under ∙ ap (λ (l : List ℕ). placed_on inst l b) whole ∙ sym (get_or_range (placed_on inst words) 0 64 b under)
