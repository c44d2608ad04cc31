-- `plan_text::put_pieces` meets its contract: a line for each row, and a full buffer keeps what it has.
use native.Mathlib.Omega.{arith}
use mathlib.Core.Path.{◌∙◌, ap}
use Rattle.words.specs.Appending.{with_bytes}
use Rattle.words.proofs.append.Buffers.{bytes_begin, bytes_next, bytes_stop}
use Rattle.text.proofs.plan_text.Laws.{piece_line_lem}
use Rattle.text.proofs.plan_text.put_pieces.Goals as goal

pub loop-k-init : goal.loop-k-init
loop-k-init g c = bytes_begin _ _ _

pub returns-then-is_full : goal.returns-then-is_full
returns-then-is_full g c = bytes_stop _ _ _ _ _ c.loop-k.invariant (omega arith) (omega arith)

pub loop-k-preserved : goal.loop-k-preserved
loop-k-preserved g c = bytes_next _ _ _ _ c.loop-k.invariant (c.id_line.ensures ∙ ap (with_bytes _ _) (piece_line_lem _ _))
