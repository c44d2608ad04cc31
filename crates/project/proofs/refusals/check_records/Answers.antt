-- `refusals::check_records` meets its contract: what is left of the records gives what all of them give.
use Prim.Native.Nat.{ℕ, ◌+◌}
use mathlib.Core.Path.{sym, ap, ◌∙◌}
use mathlib.Core.Option.{Option}
use Rattle.lists.specs.Base.{◌<|>◌}
use Rattle.model.specs.Project.{Record}
use Rattle.project.specs.Records.{record_at}
use Rattle.project.specs.Checks.{rule_of}
use Rattle.project.proofs.refusals.Checks.{rest, rest_all, rest_next, rest_none}
use Rattle.std.proofs.lemmas.Result.{err_from_is_err_and}
use borrow.Author.Rules.{rules}
use Rattle.project.proofs.refusals.check_records.Goals as goal

pub returns-in_err-check_record : goal.returns-in_err-check_record
returns-in_err-check_record c =
    let exit = err_from_is_err_and c.from_residual.result c.from_residual.ensures.1 in
    rw (exit.1, exit.2)
    (ap (λ (o : Option ℕ). o <|> rest c.args.body.now (rule_of c.args.kind) (c.loop-i.i + 1) (c.loop-i.count + (record_at c.args.body.now c.loop-i.i).quantity)) c.in_err-check_record.ensures
    ∙ sym (rest_next c.args.body.now (rule_of c.args.kind) c.loop-i.i c.loop-i.count (search rules))
    ∙ c.loop-i.invariant.1
    ∙ rest_all c.args.body.now (rule_of c.args.kind))

pub loop-i-preserved : goal.loop-i-preserved
loop-i-preserved c = (
  search rules,
  ap (λ (q : ℕ). rest c.args.body.now (rule_of c.args.kind) (c.loop-i.i + 1) (c.loop-i.count + q)) (c.from-count.ensures ∙ ap (λ (p : Record). p.quantity) c.record_at.ensures)
      ∙ ap (λ (o : Option ℕ). o <|> rest c.args.body.now (rule_of c.args.kind) (c.loop-i.i + 1) (c.loop-i.count + (record_at c.args.body.now c.loop-i.i).quantity)) c.in_ok-check_record.ensures
      ∙ sym (rest_next c.args.body.now (rule_of c.args.kind) c.loop-i.i c.loop-i.count (search rules))
      ∙ c.loop-i.invariant.1,
)

pub returns : goal.returns
returns c =
    sym (rest_none c.args.body.now (rule_of c.args.kind) c.loop-i.i c.loop-i.count (search rules))
    ∙ c.loop-i.invariant.1
    ∙ rest_all c.args.body.now (rule_of c.args.kind)
