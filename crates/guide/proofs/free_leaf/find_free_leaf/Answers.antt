-- From the root on.
use mathlib.Core.Path.{ap, ◌∙◌}
use Rattle.std.specs.ControlFlow.{break_value}
use Rattle.guide.proofs.free_leaf.find_free_leaf.Goals as goal

pub returns : goal.returns
returns c = c.break_value.ensures.value ∙ ap break_value c.free_leaf_from.ensures
