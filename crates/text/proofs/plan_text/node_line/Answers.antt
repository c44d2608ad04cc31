-- `plan_text::node_line` meets its contract, a line for each kind.
use mathlib.Core.Path.{ap, ◌∙◌}
use Rattle.words.specs.Appending.{with_bytes}
use Rattle.text.proofs.plan_text.Laws.{cut_line, leaf_line, free_line}
use borrow.Author.Rules.{rules}
use Rattle.text.proofs.plan_text.node_line.Goals as goal

pub returns-in-0 : goal.returns-in-0
returns-in-0 g c = c.word_line.ensures ∙ ap (with_bytes _ _) (cut_line _ _ (search rules))

pub returns-in-1 : goal.returns-in-1
returns-in-1 g c = c.id_line.ensures ∙ ap (with_bytes _ _) (leaf_line _ _ (search rules))

pub returns-in_default : goal.returns-in_default
returns-in_default g c = c.word_line-in_default.ensures ∙ ap (with_bytes _ _) (free_line _ _ (search rules) (search rules))
