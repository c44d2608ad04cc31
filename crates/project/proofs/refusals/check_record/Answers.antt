-- `refusals::check_record` meets its contract: the rows are those of the kind.
use Prim.Native.Nat.{ℕ}
use mathlib.Core.Path.{sym, ap, ◌∙◌}
use mathlib.Core.List.{List}
use Rattle.model.specs.Project.{Record}
use Rattle.model.specs.Refusal.{first_that_applies}
use Rattle.project.specs.declared.Kind.{Kind}
use Rattle.project.specs.Records.{record_of, record_at}
use Rattle.project.specs.Checks.{rule_of, ids_before}
use Rattle.project.proofs.refusals.Checks.{next_check, no_checks, stock_checked, cut_checked}
use Rattle.project.proofs.refusals.check_record.Goals as goal
use Rattle.project.proofs.refusals.check_record.Goals.{in-Stock, in-Cut}

pub returns : goal.returns
returns c =
    let seen : List ℕ = ids_before c.args.body.now c.args.i in
    let q : Record = record_at c.args.body.now c.args.i in
    elim c.match-kind.branch [
      | in-Stock w ↦
          c.first_that_applies.ensures
          ∙ next_check _ _ _ _ _ (rw w.codes-is at c.then_some-2.ensures) (next_check _ _ _ _ _ c.then_some-3.ensures (next_check _ _ _ _ _ c.then_some-4.ensures
          (next_check _ _ _ _ _ (ap (λ t. t.1) w.codes-is ∙ w.then_some.ensures) (next_check _ _ _ _ _ c.then_some-5.ensures (next_check _ _ _ _ _ (rw w.codes-is at c.then_some-6.ensures) no_checks)))))
          ∙ stock_checked (record_of c.record_at-p.result) q seen c.args.count _ _ _ _ _ c.record_at-p.ensures c.from.ensures c.zero_side.ensures c.large_side.ensures c.id_used.ensures w.bad_stock_codes.ensures
          ∙ ap (λ (k : Kind). first_that_applies (rule_of k seen c.args.count q)) (sym w.in-Stock.is)
      | in-Cut w ↦
          c.first_that_applies.ensures
          ∙ next_check _ _ _ _ _ (rw w.codes-is at c.then_some-2.ensures) (next_check _ _ _ _ _ c.then_some-3.ensures (next_check _ _ _ _ _ c.then_some-4.ensures
          (next_check _ _ _ _ _ (ap (λ t. t.1) w.codes-is ∙ w.then_some-in-Cut.ensures) (next_check _ _ _ _ _ c.then_some-5.ensures (next_check _ _ _ _ _ (rw w.codes-is at c.then_some-6.ensures) no_checks)))))
          ∙ cut_checked (record_of c.record_at-p.result) q seen c.args.count _ _ _ _ _ c.record_at-p.ensures c.from.ensures c.zero_side.ensures c.large_side.ensures c.id_used.ensures w.bad_codes.ensures
          ∙ ap (λ (k : Kind). first_that_applies (rule_of k seen c.args.count q)) (sym w.in-Cut.is)
    ]
