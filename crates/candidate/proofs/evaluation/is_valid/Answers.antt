-- `evaluation::is_valid` meets its contract.
use Prim.Native.Nat.{ℕ}
use native.Mathlib.Omega.{arith}
use mathlib.Core.Path.{◌≡◌, refl, sym, ap, ◌∙◌}
use mathlib.Core.Bool.{Bool, false, not, ◌&&◌}
use mathlib.Core.List.{List, [], ◌∷◌, map}
use lib.ListN.{length}
use borrow.Author.Tests.{eqb-true, eqb-false}
use Rattle.lists.specs.Base.{is_empty}
use Rattle.candidate.specs.declared.Candidate.{Candidate as Words}
use Rattle.candidate.specs.Entries.{cut_of}
use Rattle.candidate.specs.Stands.{placed_words, unused_numbers}
use Rattle.candidate.specs.Keys.{repeats, valid_words}
use Rattle.candidate.proofs.evaluation.is_valid.Goals as goal

none_unused : (k : Words) (b : Bool) → length (unused_numbers k) ≡ 0 → b ≡ repeats (map cut_of (placed_words k)) → not b ≡ valid_words k
unfolding valid_words
none_unused k b e f = ap not f ∙ go (unused_numbers k) e
  where
    go : (l : List ℕ) → length l ≡ 0 → not (repeats (map cut_of (placed_words k))) ≡ (is_empty l && not (repeats (map cut_of (placed_words k))))
    go [] h = refl
    go (x ∷ l) h = absurd (omega arith)

some_unused : (k : Words) → (length (unused_numbers k) ≡ 0 → ⊥) → false ≡ valid_words k
unfolding valid_words
some_unused k e = go (unused_numbers k) e
  where
    go : (l : List ℕ) → (length l ≡ 0 → ⊥) → false ≡ (is_empty l && not (repeats (map cut_of (placed_words k))))
    go [] h = absurd (h refl)
    go (x ∷ l) h = refl

pub returns-then-is_empty : goal.returns-then-is_empty
returns-then-is_empty c =
    none_unused c.args.c.now c.has_duplicate_placed_cut_keys.result (eqb-true _ _ (sym c.is_empty.ensures ∙ c.if-is_empty.true))
    (c.has_duplicate_placed_cut_keys.ensures ∙ ap repeats (c.as_slice.ensures.value ∙ c.placed_cuts.ensures))

pub returns-else-is_empty : goal.returns-else-is_empty
returns-else-is_empty c = c.if-is_empty.false ∙ some_unused c.args.c.now (eqb-false _ _ (sym c.is_empty.ensures ∙ c.if-is_empty.false))
