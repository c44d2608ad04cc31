-- `refusals::id_used` meets its contract: no record before the present one has the id.
use native.Mathlib.Omega.{arith}
use mathlib.Core.Path.{◌≡◌, sym, ap, ◌∙◌}
use mathlib.Core.Bool.{◌||◌, Bool}
use borrow.Author.Tests.{ne_eqb}
use Rattle.model.specs.Project.{Record}
use Rattle.project.specs.Records.{record_at}
use Rattle.project.proofs.refusals.Checks.{among, among_none, among_next, among_one}
use Rattle.project.proofs.refusals.id_used.Goals as goal

pub loop-k-init : goal.loop-k-init
loop-k-init c = among_none c.args.body.now c.args.id

pub returns-then-record_at-id : goal.returns-then-record_at-id
returns-then-record_at-id c =
    let read : c.record_at.result.id ≡ (record_at c.args.body.now c.loop-k.k).id = ap (λ (p : Record). p.id) c.record_at.ensures in
    sym (among_one c.args.body.now c.args.id c.loop-k.k c.args.i (omega arith) (sym c.if-record_at-id.true ∙ read))

pub loop-k-preserved : goal.loop-k-preserved
loop-k-preserved c =
    let read : c.record_at.result.id ≡ (record_at c.args.body.now c.loop-k.k).id = ap (λ (p : Record). p.id) c.record_at.ensures in
    among_next c.args.body.now c.args.id c.loop-k.k
    ∙ ap (λ (b : Bool). b || among c.args.body.now c.args.id c.loop-k.k) (ne_eqb c.args.id _ (λ e. c.if-record_at-id.false (read ∙ sym e)))
    ∙ c.loop-k.invariant
