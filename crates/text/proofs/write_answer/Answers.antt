-- `text::write_answer` meets its contract: the text of what the entry answers and leaves.
use Prim.Native.Nat.{ℕ}
use native.Mathlib.Omega.{arith}
use mathlib.Core.Path.{refl, ap, ◌∙◌, subst}
use mathlib.Core.List.{List}
use borrow.Author.Rules.{rules}
use Rattle.words.specs.Appending.{with_bytes, Appended}
use Rattle.text.proofs.Texts.{text_of_plan, text_of_refusal, refusal_number-positive}
use Rattle.text.proofs.Whole.{whole}
use Rattle.text.proofs.write_answer.Goals as goal

pub returns-in-Ok-clause-appended : goal.returns-in-Ok-clause-appended
returns-in-Ok-clause-appended c =
    subst (λ (text : List ℕ). Appended c.args.out.now 0 text c.write_plan.new.out c.write_plan.result)
    (ap (with_bytes _ _) (text_of_plan c.in-Ok.ensures refl) ∙ whole c.args.file.now _ _ (λ i. search rules) (omega arith) refl)
    c.write_plan.ensures.appended

pub returns-in-Err-clause-appended : goal.returns-in-Err-clause-appended
returns-in-Err-clause-appended c =
    subst (λ (text : List ℕ). Appended c.args.out.now 0 text c.write_refusal.new.out c.write_refusal.result)
    (text_of_refusal c.in-Err.ensures (refusal_number-positive _))
    c.write_refusal.ensures.appended
