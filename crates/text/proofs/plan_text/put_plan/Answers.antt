-- `plan_text::put_plan` meets its contract.
use native.Mathlib.Omega.{arith}
use Rattle.words.proofs.append.Buffers.{with_bytes-append}
use Rattle.text.specs.PlanText.{plan_text}
use Rattle.text.proofs.plan_text.put_plan.Goals as goal

pub returns : goal.returns
unfolding plan_text
returns g c = grind (arith, with_bytes-append)
