-- `search::push_child` meets its contract.
use Prim.Native.Nat.{◌+◌}
use mathlib.Core.Path.{refl, sym, subst}
use Rattle.std.specs.Prelude.{Option}
use Rattle.candidate.specs.declared.Candidate.{Candidate}
use Rattle.search.specs.Regions.{PushesChild}
use Rattle.search.proofs.push_child.Goals as goal

pub returns-in-None : goal.returns-in-None
returns-in-None c =
    subst (λ (o : Option Candidate). PushesChild c.args.base c.args.size o c.args.ws.now c.args.ws.now c.args.size) (sym c.in-None.is)
    (refl, refl)

pub returns-in-Some : goal.returns-in-Some
returns-in-Some c =
    subst (λ (o : Option Candidate). PushesChild c.args.base c.args.size o c.args.ws.now c.store_at.new.ws (c.args.size + 1)) (sym c.in-Some.is)
    (c.store_at.ensures, refl)
