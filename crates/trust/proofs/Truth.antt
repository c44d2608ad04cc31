-- Tests that are passed, of two and over lists: from what holds of each element to what the test of the whole says, and back.
use mathlib.Core.Path.{◌≡◌, refl, sym, subst}
use mathlib.Core.Bool.{Bool, true, false, ◌&&◌, ◌||◌, true≢false}
use mathlib.Core.List.{List, [], ◌∷◌, map}
use lib.Dec.{T}
use Rattle.lists.specs.Base.{all}
use Rattle.lists.specs.Elements.{All, Pairs}
use Rattle.trust.specs.PieceRules.{pairwise}

pub of_true : {b : Bool} → b ≡ true → T b
of_true e = subst T (sym e) tt

pub and_intro : (p q : Bool) → T p → T q → T (p && q)
and_intro true q t u = u
and_intro false q t u = t

pub and_split : (p q : Bool) → T (p && q) → T p × T q
and_split true q t = (tt, t)
and_split false q t = absurd t

pub or_false_split : (p q : Bool) → (p || q) ≡ false → (p ≡ false) × (q ≡ false)
or_false_split true q e = absurd (true≢false e)
or_false_split false q e = (refl, e)

pub or_left : (a b : Bool) → T a → T (a || b)
or_left true b t = tt
or_left false b t = absurd t

pub or_right : (a b : Bool) → T b → T (a || b)
or_right true b t = tt
or_right false b t = t

module _ {A : Type 0} (p : A → Bool) where
  pub all_passed : (xs : List A) → All (λ x. T (p x)) xs → T (all p xs)
  unfolding all
  all_passed [] h = tt
  all_passed (x ∷ xs) h = and_intro (p x) (all p xs) h.0 (all_passed xs h.1)

  pub all_of : (xs : List A) → T (all p xs) → All (λ x. T (p x)) xs
  unfolding all
  all_of [] h = tt
  all_of (x ∷ xs) h =
      let s = and_split (p x) (all p xs) h in
      (s.0, all_of xs s.1)

-- a test that whatever f gives passes
pub map_pass : {A B : Type 0} (p : B → Bool) (f : A → B) → ((x : A) → T (p (f x))) → (xs : List A) → T (all p (map f xs))
unfolding all
map_pass p f h [] = tt
map_pass p f h (x ∷ xs) = and_intro (p (f x)) (all p (map f xs)) (h x) (map_pass p f h xs)

-- two by two
module _ {A : Type 0} (p : A → A → Bool) where
  pub pairs_passed : (xs : List A) → Pairs (λ x y. T (p x y)) xs → T (pairwise p xs)
  unfolding pairwise
  pairs_passed [] h = tt
  pairs_passed (x ∷ xs) h = and_intro (all (p x) xs) (pairwise p xs) (all_passed (p x) xs h.0) (pairs_passed xs h.1)

  pub pairs_of : (xs : List A) → T (pairwise p xs) → Pairs (λ x y. T (p x y)) xs
  unfolding pairwise
  pairs_of [] h = tt
  pairs_of (x ∷ xs) h =
      let s = and_split (all (p x) xs) (pairwise p xs) h in
      (all_of (p x) xs s.0, pairs_of xs s.1)
