-- The derived order of scores is the definitions' order of their numbers.
use Rattle.std.proofs.Common.{◌≡◌, ap, ◌∙◌, refl, not, Some}
use Prim.Native.Nat.{Ordering as Order}
use Rattle.std.specs.declared.cmp.Ordering.{Ordering}
use Rattle.std.specs.declared.cmp.Ordering.TheVariants.{Less, Equal, Greater}
use Rattle.std.specs.Ordering.{is_ge, partial_ge, ordering_then, partial_ordering_then}
use Rattle.lists.specs.Base.{is_less, then_with, lexicographic}
use Rattle.lists.specs.Language.{order_of}
use Rattle.lists.proofs.Language.{order_of_nat, order_of_then}
use Rattle.fits.specs.declared.choice.Score.{Score}
use Rattle.fits.specs.contracts.choice.ScorePartialOrd.TheImpl.{partial_cmp-value}
use Rattle.fits.specs.contracts.choice.ScoreOrd.TheImpl.{cmp-value}
use Rattle.fits.specs.Numbers.{score_numbers}

total : (p q : Ordering) → partial_ordering_then (Some p) (Some q) ≡ Some (ordering_then p q)
total Less q = refl
total Equal q = refl
total Greater q = refl

total_order : (a b : Score) → partial_cmp-value.it a b ≡ Some (cmp-value.it a b)
total_order a b = simp total

last : (o : Order) → then_with o Order.eq ≡ o
last Order.lt = refl
last Order.eq = refl
last Order.gt = refl

by_numbers : (a b : Score) → order_of (cmp-value.it a b) ≡ lexicographic (score_numbers a) (score_numbers b)
unfolding lexicographic
by_numbers a b = simp (order_of_then, order_of_nat, last)

no_less : (o : Ordering) → is_ge o ≡ not (is_less (order_of o))
no_less Less = refl
no_less Equal = refl
no_less Greater = refl

pub not_lower : (a b : Score) → partial_ge partial_cmp-value.it a b ≡ not (is_less (lexicographic (score_numbers a) (score_numbers b)))
not_lower a b = rw total_order (no_less (cmp-value.it a b) ∙ ap (λ (o : Order). not (is_less o)) (by_numbers a b))
