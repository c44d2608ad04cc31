-- The loop's invariant: the cuts so far that are not placed.
use Prim.Native.Nat.{ℕ}
use mathlib.Core.Path.{◌≡◌, sym, ap, ◌∙◌}
use mathlib.Core.List.{List}
use Rattle.candidate.specs.declared.Candidate.{Candidate as Words}
use Rattle.candidate.specs.Moves.{with_unused}
use Rattle.candidate.specs.Keys.{elem}
use Rattle.candidate.proofs.evaluation.Walks.{contains_elem}
use Rattle.candidate.proofs.variation.Pushes.{others_more, others_same}
use Rattle.candidate.proofs.variation.others_unused.Goals as goal
use Rattle.candidate.proofs.variation.others_unused.Goals.{then-not-contains, else-not-contains}

pub loop-cut-preserved : goal.loop-cut-preserved
loop-cut-preserved c =
    let ks : List ℕ = c.placed_cuts-keys.result.items in
    let answer : c.contains.result ≡ elem c.loop-cut.cut-counter ks = c.contains.ensures.value ∙ contains_elem c.loop-cut.cut-counter c.as_slice.result.now ∙ ap (elem c.loop-cut.cut-counter) c.as_slice.ensures.value in
    elim c.if-not-contains.branch [
      | then-not-contains w ↦
          w.c-is
          ∙ w.push_unused.ensures
          ∙ ap (λ (x : Words). with_unused x c.loop-cut.cut-counter) c.loop-cut.invariant
          ∙ others_more c.args.c.now ks c.loop-cut.cut-counter (sym answer ∙ w.if-not-contains.true)
      | else-not-contains w ↦ w.c-is ∙ c.loop-cut.invariant ∙ others_same c.args.c.now ks c.loop-cut.cut-counter (sym answer ∙ w.if-not-contains.false)
    ]
