-- The lines of a text, as `split` gives them.
use Rattle.std.proofs.Common.{◌≡◌, refl, sym, ap, ◌∙◌, ◌⊎◌, inl, inr, ℕ, zero, suc, ◌+◌, ◌<◌, Bool, true, false, cond, Bor, List, [], ◌∷◌, ◌++◌, eqb, length, get_or, drop, add-one, arith, Ok, Err, None, Some, Option, if◌then◌else◌}
use Rattle.std.specs.List.{slice_split, onto_first, enumerate_from}
use Rattle.typed.specs.declared.line.Line.{Line}
use Rattle.typed.specs.declared.line.Reason.{Reason}
use Rattle.typed.specs.Words.{first_word, behind_space}
use Rattle.typed.specs.Lines.{line_of}
use Rattle.typed.specs.declared.Draft.{Draft}
use Rattle.typed.specs.Project.{glued, lines_of, empty, reason_of, added, answer_of, unless, meaning_from, meaning}
use Rattle.std.proofs.lemmas.List.FromFn.{length-enumerate_from}
use lib.ListN.{drop_of_length-le}
use denote.Param.Members.{Mut}
use Rattle.std.specs.Fn.{CalledAt}
use Rattle.std.specs.Iterator.{Yields}
use Rattle.std.specs.Iterator.Adapters.{enumerate_source, enumerate_count, enumerate_steps}
use Rattle.std.specs.Slice.Iter.{split_rest, split_done, split_callee, split_steps}
use Rattle.std.specs.declared.iter.Enumerate.{Enumerate}
use Rattle.std.specs.declared.slice.Split.{Split}
use Rattle.std.proofs.lemmas.Iterator.{YieldsList}
use Rattle.std.proofs.lemmas.Iterator.Consumers.{YieldsList-from_enumerate, YieldsList-at, YieldsList-turn, YieldsList-end}
use Rattle.std.proofs.lemmas.Iterator.Splits.{YieldsList-from_slice_split}

abbrev pub ends_line : ℕ → Bool
ends_line c = eqb c 10

abbrev more : List (List ℕ) → List (List ℕ)
more ls = ls ++ ([] ∷ [])

-- `split` gives the lines, and an empty one more where the text is empty or ends in a newline
split_lines : (text : List ℕ) → (slice_split ends_line text ≡ lines_of text) ⊎ (slice_split ends_line text ≡ more (lines_of text))
unfolding lines_of
split_lines [] = inr refl
split_lines (c ∷ cs) = go (ends_line c) (slice_split ends_line cs) (lines_of cs) (split_lines cs)
  where
    go : (t : Bool) (s l : List (List ℕ)) → (s ≡ l) ⊎ (s ≡ more l)
        → (cond t ([] ∷ s) (onto_first c s) ≡ (if t then [] ∷ l else glued c l)) ⊎ (cond t ([] ∷ s) (onto_first c s) ≡ more (if t then [] ∷ l else glued c l))
    go true s l (inl e) = inl (ap (λ (x : List (List ℕ)). [] ∷ x) e)
    go true s l (inr e) = inr (ap (λ (x : List (List ℕ)). [] ∷ x) e)
    go false s [] (inl e) = inl (ap (onto_first c) e)
    go false s (l ∷ ls) (inl e) = inl (ap (onto_first c) e)
    go false s [] (inr e) = inl (ap (onto_first c) e)
    go false s (l ∷ ls) (inr e) = inr (ap (onto_first c) e)

empty_line : line_of [] ≡ Ok Line.Blank
unfolding line_of first_word behind_space
empty_line = refl

-- an empty line at the end says nothing
meaning_more : (number : ℕ) (d : Draft) (ls : List (List ℕ)) → meaning_from number d (more ls) ≡ meaning_from number d ls
unfolding meaning_from unless
meaning_more number d [] = rw empty_line refl
meaning_more number d (l ∷ ls) = ap (unless number (reason_of d (line_of l))) (meaning_more (number + 1) (added d (line_of l)) ls)

pub meaning_split : (number : ℕ) (d : Draft) (text : List ℕ) → meaning_from number d (slice_split ends_line text) ≡ meaning_from number d (lines_of text)
meaning_split number d text =
    elim (split_lines text) [ inl e ↦ ap (meaning_from number d) e | inr e ↦ ap (meaning_from number d) e ∙ meaning_more number d (lines_of text) ]

-- the meaning of the lines that are left: a bad one, a good one, none
module _ (number : ℕ) (d : Draft) (l : List ℕ) (ls : List (List ℕ)) where
  pub line_bad : (why : Reason) → reason_of d (line_of l) ≡ Some why → meaning_from number d (l ∷ ls) ≡ Err (record { number = number; why = why })
  unfolding meaning_from unless
  line_bad why e = rw e

  pub line_good : reason_of d (line_of l) ≡ None → meaning_from number d (l ∷ ls) ≡ meaning_from (number + 1) (added d (line_of l)) ls
  unfolding meaning_from unless
  line_good e = rw e

answer_none : (o : Option Reason) → Ok tt ≡ answer_of o → o ≡ None
answer_none None e = refl
answer_none (Some why) e = cc

answer_some : (o : Option Reason) (why : Reason) → Err why ≡ answer_of o → o ≡ Some why
answer_some None why e = cc
answer_some (Some other) why e = let f : why ≡ other = cc in ap Some (sym f)

-- the item at a place of a numbered list has that number, and begins what the list has from there on
pub numbered : (n k : ℕ) (ls : List (List ℕ)) (i : ℕ) (l : List ℕ) → (k < length (enumerate_from n ls)) × ((i, l) ≡ get_or (enumerate_from n ls) k (i, l))
    → (i ≡ n + k) × (drop k ls ≡ l ∷ drop (suc k) ls)
numbered n k [] i l h = absurd (omega (arith, h.0))
numbered n zero (x ∷ ls) i l h = (ap (λ (p : ℕ × List ℕ). p.0) h.1 ∙ omega arith, ap (λ (y : List ℕ). y ∷ ls) (sym (ap (λ (p : ℕ × List ℕ). p.1) h.1)))
numbered n (suc k) (x ∷ ls) i l h = let r = numbered (n + 1) k ls i l (omega (arith, h.0), h.1) in (omega (arith, r.0), r.1)

-- a `for` over the lines that `split` gives, where it has passed k of them
module _ (text : List ℕ) (k : ℕ) (d : Draft)
    (h : meaning_from (k + 1) d (drop k (slice_split ends_line text)) ≡ meaning_from 1 empty (slice_split ends_line text)) where
  abbrev pieces : List (List ℕ)
  pieces = slice_split ends_line text

  whole : meaning_from 1 empty pieces ≡ meaning text
  unfolding meaning
  whole = meaning_split 1 empty text

  module _ (i : ℕ) (l : List ℕ) (turn : (k < length (enumerate_from 0 pieces)) × ((i, l) ≡ get_or (enumerate_from 0 pieces) k (i, l))) where
    pub bad_turn : (why : Reason) → Err why ≡ answer_of (reason_of d (line_of l)) → Err (record { number = i + 1; why = why }) ≡ meaning text
    bad_turn why e =
        let p = numbered 0 k pieces i l turn in
        let number : i + 1 ≡ k + 1 = omega (arith, p.0) in
        ap (λ (n : ℕ). Err (record { number = n; why = why })) number
        ∙ sym (line_bad (k + 1) d l (drop (suc k) pieces) why (answer_some _ why e)) ∙ ap (meaning_from (k + 1) d) (sym p.1) ∙ h ∙ whole

    pub good_turn : Ok tt ≡ answer_of (reason_of d (line_of l)) → meaning_from (k + 1 + 1) (added d (line_of l)) (drop (k + 1) pieces) ≡ meaning_from 1 empty pieces
    good_turn e =
        let p = numbered 0 k pieces i l turn in
        ap (λ (n : ℕ). meaning_from (k + 1 + 1) (added d (line_of l)) (drop n pieces)) (add-one k) ∙ sym (line_good (k + 1) d l (drop (suc k) pieces) (answer_none _ e)) ∙ ap (meaning_from (k + 1) d) (sym p.1) ∙ h

  pub last_turn : k ≡ length (enumerate_from 0 pieces) → Ok d ≡ meaning text
  unfolding meaning_from
  last_turn e = sym (ap (meaning_from (k + 1) d) (drop_of_length-le pieces (omega (arith, e, length-enumerate_from 0 pieces)))) ∙ h ∙ whole

-- the lines that `split` gives, numbered from zero on
abbrev pub all : List ℕ → List (ℕ × List ℕ)
all text = enumerate_from 0 (slice_split ends_line text)

-- the `for` over `split` and `enumerate` that begins at j has passed xs and is at t
module _ {F : Type 0} {g : Mut F (Bor ℕ × Unit {0}) Bool} {f : F} {s : Split ℕ F} {e j : Enumerate (Split ℕ F)} (text : List ℕ) where
  lines : j ≡ e → enumerate_source e ≡ s → enumerate_count e ≡ 0 → split_rest s ≡ text → split_done s ≡ false → split_callee s ≡ f
      → ((x : ℕ) (b : Bool) (q : F) → CalledAt g f x b q → (q ≡ f) × (b ≡ ends_line x)) → YieldsList (enumerate_steps (split_steps g)) (λ p. (p.0, p.1.now)) j (all text)
  lines gives source count rest done callee tests = YieldsList-at gives (YieldsList-from_enumerate (YieldsList-at source (YieldsList-from_slice_split g ends_line text rest done callee tests)) count)

  pub line_turn : (t u : Enumerate (Split ℕ F)) (xs : List (ℕ × Bor (List ℕ))) (r : Option (ℕ × Bor (List ℕ))) (i : ℕ) (l : Bor (List ℕ))
      → Yields (enumerate_steps (split_steps g)) j xs t → enumerate_steps (split_steps g) t r u → r ≡ Some (i, l)
      → j ≡ e → enumerate_source e ≡ s → enumerate_count e ≡ 0 → split_rest s ≡ text → split_done s ≡ false → split_callee s ≡ f
      → ((x : ℕ) (b : Bool) (q : F) → CalledAt g f x b q → (q ≡ f) × (b ≡ ends_line x))
      → (length xs < length (all text)) × ((i, l.now) ≡ get_or (all text) (length xs) (i, l.now))
  line_turn t u xs r i l y next is gives source count rest done callee tests =
      YieldsList-turn (lines gives source count rest done callee tests) xs t y r u (i, l) is next

  pub line_end : (t u : Enumerate (Split ℕ F)) (xs : List (ℕ × Bor (List ℕ))) (r : Option (ℕ × Bor (List ℕ)))
      → Yields (enumerate_steps (split_steps g)) j xs t → enumerate_steps (split_steps g) t r u → r ≡ None
      → j ≡ e → enumerate_source e ≡ s → enumerate_count e ≡ 0 → split_rest s ≡ text → split_done s ≡ false → split_callee s ≡ f
      → ((x : ℕ) (b : Bool) (q : F) → CalledAt g f x b q → (q ≡ f) × (b ≡ ends_line x))
      → length xs ≡ length (all text)
  line_end t u xs r y next is gives source count rest done callee tests =
      (YieldsList-end (lines gives source count rest done callee tests) xs t y r u is next).1
