-- `plan_text::put_field` meets its contract.
use mathlib.Core.List.{[], ◌∷◌}
use Rattle.words.specs.Numerals.{decimal_of}
use Rattle.words.proofs.append.Buffers.{with_bytes-append}
use Rattle.text.specs.PlanText.{field}
use Rattle.text.proofs.plan_text.put_field.Goals as goal

pub returns : goal.returns
unfolding field
returns g c = let both = with_bytes-append g.row.N c.args.text.now (32 ∷ []) (decimal_of c.args.number) in cc
