-- The text that is printed for the file, held against the other: there is room for all of it.
use native.Mathlib.Omega.{arith}
use Rattle.std.proofs.Common.{ap, ◌∙◌, bytes_eq}
use Rattle.vectors.specs.Replay.{is_equal}
use Rattle.vectors.proofs.is_equal.Goals as goal

pub returns : goal.returns
unfolding is_equal
returns c = c.eq.ensures ∙ ap (λ l. bytes_eq l c.args.text.now) (c.as_slice.ensures.bytes ∙ c.put_answer.ensures.whole (omega arith) c.new-printed.ensures)
