-- `evaluation::placed_cuts` meets its contract.
use Prim.Native.Nat.{ℕ}
use native.Mathlib.Omega.{arith}
use mathlib.Core.Path.{◌≡◌, sym, ap, ◌∙◌}
use mathlib.Core.List.{List, [], ◌∷◌, ◌++◌, map}
use lib.ListN.{length, get_or, take, length-take}
use lib.Seq.{take-length}
use Rattle.lists.proofs.Sums.{length-map, map_append}
use Rattle.lists.proofs.Arrays.{take_next}
use Rattle.candidate.specs.Entries.{cut_of}
use Rattle.candidate.proofs.evaluation.placed_cuts.Goals as goal

pub push-requires : goal.push-requires
push-requires c =
    let so_far : List ℕ = take c.loop-word.word-index c.as_slice-word-items.result.now in
    (omega arith, omega (arith, ap length c.loop-word.invariant, length-map cut_of so_far, length-take c.loop-word.word-index c.as_slice-word-items.result.now))

pub loop-word-preserved : goal.loop-word-preserved
loop-word-preserved c =
    let words : List ℕ = c.as_slice-word-items.result.now in
    let i : ℕ = c.loop-word.word-index in
    c.push.ensures.items
    ∙ (λ k. c.loop-word.invariant k ++ (c.cut_of.ensures k ∷ []))
    ∙ sym (ap (map cut_of) (take_next words i 0 c.loop-word-test.true) ∙ map_append cut_of (take i words) (get_or words i 0 ∷ []))

pub returns : goal.returns
returns c =
    let words : List ℕ = c.as_slice-word-items.result.now in
    let all : c.loop-word.word-index ≡ length words = omega arith in
    c.loop-word.invariant ∙ ap (map cut_of) (ap (λ (n : ℕ). take n words) all ∙ take-length words ∙ c.as_slice-word-items.ensures.value)
