-- The buffer has the whole text, and the lent bytes get it.
use Prim.Native.Nat.{ℕ}
use native.Mathlib.Omega.{arith}
use mathlib.Core.Path.{◌∙◌, subst}
use mathlib.Core.List.{List}
use Rattle.words.specs.Appending.{Appended}
use Rattle.text.proofs.Whole.{refusal_whole}
use Rattle.text.proofs.write_refusal.Goals as goal

pub returns-clause-appended : goal.returns-clause-appended
returns-clause-appended c =
    subst (λ (text : List ℕ). Appended c.args.out.now 0 text c.put_front.new.out c.put_front.result)
    (c.as_slice.ensures.bytes ∙ c.put_refusal.ensures ∙ refusal_whole c.args.refusal _ _ (omega arith) c.new-short.ensures)
    c.put_front.ensures.appended
