-- `text::put_answer` meets its contract: the entry's promise gives the number and the plan memory.
use mathlib.Core.Path.{refl, ap, ◌∙◌}
use borrow.Author.Rules.{rules}
use Rattle.words.specs.Appending.{with_bytes}
use Rattle.text.proofs.Texts.{text_of_plan, text_of_refusal, refusal_number-positive}
use Rattle.text.proofs.Whole.{whole}
use Rattle.text.proofs.put_answer.Goals as goal

pub returns-in-Ok : goal.returns-in-Ok
returns-in-Ok g c =
    let put = c.put_plan.ensures ∙ ap (with_bytes _ _) (text_of_plan c.in-Ok.ensures refl) in
    record { text = put; whole = λ room empty. put ∙ whole c.args.file.now _ _ (λ i. search rules) room empty }

pub returns-in-Err : goal.returns-in-Err
returns-in-Err g c =
    let put = c.put_refusal.ensures ∙ ap (with_bytes _ _) (text_of_refusal c.in-Err.ensures (refusal_number-positive _)) in
    record { text = put; whole = λ room empty. put ∙ whole c.args.file.now _ _ (λ i. search rules) room empty }
