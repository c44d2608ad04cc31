-- The language's order of numbers is the definitions', also where it is put together.
use Rattle.std.proofs.Common.{◌≡◌, ℕ, ◌<◌, Bool, true, false, cond, nat_lt, ◌==◌, refl, sym, arith}
use Prim.Native.Nat.{compare}
use Prim.Native.Nat.{Ordering as Order}
use Rattle.std.specs.declared.cmp.Ordering.{Ordering}
use Rattle.std.specs.declared.cmp.Ordering.TheVariants.{Less, Equal, Greater}
use Rattle.std.specs.Ordering.{nat_cmp, ordering_then}
use borrow.Author.Tests.{ltb-true, ltb-false, eqb-true, eqb-false}
use Rattle.lists.specs.Base.{then_with}
use Rattle.lists.specs.Language.{order_of}
use Rattle.lists.proofs.Preorder.{compare_is}

pub order_of_nat : (x y : ℕ) → order_of (nat_cmp x y) ≡ compare x y
order_of_nat x y = go (nat_lt x y) (x == y) refl refl
  where
    go : (l e : Bool) → nat_lt x y ≡ l → (x == y) ≡ e → order_of (cond l Less (cond e Equal Greater)) ≡ compare x y
    go true e p q = sym (compare_is Order.lt x y (ltb-true x y p))
    go false true p q = sym (compare_is Order.eq x y (eqb-true x y q))
    go false false p q =
        let h : y < x = omega (arith, ltb-false x y p, eqb-false x y q) in sym (compare_is Order.gt x y h)

pub order_of_then : (p q : Ordering) → order_of (ordering_then p q) ≡ then_with (order_of p) (order_of q)
order_of_then Less q = refl
order_of_then Equal q = refl
order_of_then Greater q = refl
