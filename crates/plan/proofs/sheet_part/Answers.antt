-- Each early return has no part, by one of the tests; the last call finds the part or none.
use native.Mathlib.Omega.{arith}
use mathlib.Core.Path.{sym}
use Rattle.plan.proofs.Reading.{part_none, part_found}
use Rattle.plan.proofs.sheet_part.Goals as goal

pub returns-in_err-first : goal.returns-in_err-first
returns-in_err-first c = rw c.from_residual.ensures (sym (part_none _ _ (omega (arith, c.in_err-first.ensures.item.3))))

pub returns-then-branch-number : goal.returns-then-branch-number
returns-then-branch-number c = sym (part_none _ _ (omega (arith, c.in_ok-first.ensures.item.4 (omega arith) 0)))

pub returns-in_err-start : goal.returns-in_err-start
returns-in_err-start c = rw c.from_residual-in_err-start.ensures (sym (part_none _ _ (omega (arith, c.in_err-start.ensures.lookup.3))))

pub returns-in_err-size : goal.returns-in_err-size
returns-in_err-size c = rw c.from_residual-in_err-size.ensures (sym (part_none _ _ (omega (arith, c.in_err-size.ensures.lookup.3))))

pub returns : goal.returns
returns c =
    part_found _ _ _ _ (c.in_ok-start.ensures.lookup.4 (omega arith) 0) (c.in_ok-size.ensures.lookup.4 (omega arith) 0) (omega (arith, c.in_ok-first.ensures.item.4 (omega arith) 0)) (omega (arith, c.in_ok-size.ensures.lookup.3.0)) c.get-3.result c.get-3.ensures.lookup
