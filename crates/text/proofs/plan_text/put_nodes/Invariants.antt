-- The rows passed are in the buffer.
use Prim.Native.Nat.{◌+◌, ◌*◌}
use mathlib.Core.Path.{◌≡◌}
use Rattle.lists.specs.Base.{concat_map, range}
use Rattle.trust.specs.Words.{node_size}
use Rattle.words.specs.Appending.{with_bytes}
use Rattle.text.specs.BodyLines.{node_at}
use Rattle.text.proofs.plan_text.put_nodes.Given as goal

abbrev pub invariant-loop-k : goal.invariant-loop-k
invariant-loop-k g l = l.text ≡ with_bytes g.row.N l.initial.text (concat_map (λ k. node_at l.body (l.start + node_size * k)) (range l.k))
