-- The loop's invariant: what is left has a key twice exactly if all have.
use mathlib.Core.Path.{sym, ◌∙◌}
use Rattle.candidate.proofs.evaluation.Walks.{contains_elem, repeats_hit, repeats_miss, repeats_end}
use Rattle.candidate.proofs.evaluation.has_duplicate_placed_cut_keys.Goals as goal

pub returns-then-contains : goal.returns-then-contains
returns-then-contains c = sym (c.loop-i.invariant ∙ repeats_hit _ _ _ c.loop-i-test.true (c.contains.ensures.value ∙ contains_elem _ _) c.if-contains.true)

pub loop-i-preserved : goal.loop-i-preserved
loop-i-preserved c = c.loop-i.invariant ∙ repeats_miss _ _ _ c.loop-i-test.true (c.contains.ensures.value ∙ contains_elem _ _) c.if-contains.false

pub returns : goal.returns
returns c = sym (c.loop-i.invariant ∙ repeats_end _ _ c.loop-i-test.false)
