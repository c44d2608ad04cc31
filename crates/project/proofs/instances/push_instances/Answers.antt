-- `instances::push_instances` meets its contract.
use native.Mathlib.Omega.{arith}
use mathlib.Core.Path.{sym, ap, ◌∙◌}
use lib.ListN.{length}
use mathlib.Core.List.{append-nil}
use borrow.Author.Rules.{rules}
use Rattle.project.specs.Records.{record_of}
use Rattle.lists.specs.Base.{count_from}
use Rattle.project.proofs.instances.Made.{made_more, made_length}
use Rattle.project.proofs.instances.push_instances.Goals as goal

pub loop-n-init : goal.loop-n-init
unfolding count_from
loop-n-init g c = sym (append-nil _)

pub push-requires : goal.push-requires
push-requires g c = (
  search rules,
  omega (arith, ap length c.loop-n.invariant, made_length (g.made (record_of c.args.p)) c.args.instances.now.items c.loop-n.n),
)

pub loop-n-preserved : goal.loop-n-preserved
loop-n-preserved g c =
    c.push.ensures.items ∙ made_more (g.made (record_of c.args.p)) c.args.instances.now.items c.loop-n.n _ _ c.loop-n.invariant (c.requires.1.1.1.1.1 _ _ _ c.make.ensures)
