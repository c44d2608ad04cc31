-- The language's Option and Ordering as those of the definitions.
use Rattle.std.specs.Prelude.{Option, Some, None}
use Rattle.std.specs.declared.cmp.Ordering.{Ordering}
use Rattle.std.specs.declared.cmp.Ordering.TheVariants.{Less, Equal, Greater}
use Rattle.std.proofs.Math.Option as Defined
use Prim.Native.Nat.{Ordering as Order}

abbrev pub option_of : {A : Type 0} → Option A → Defined.Option A
option_of None = Defined.none
option_of (Some a) = Defined.some a

abbrev pub order_of : Ordering → Order
order_of Less = Order.lt
order_of Equal = Order.eq
order_of Greater = Order.gt
