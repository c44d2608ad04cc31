-- Each element of a list brought to the front, and a list that is empty.
use mathlib.Core.Path.{◌≡◌, refl}
use mathlib.Core.Bool.{Bool, true, false, ◌&&◌}
use mathlib.Core.List.{List, [], ◌∷◌}
use lib.Dec.{T}
use Rattle.lists.specs.Base.{is_empty}
use Rattle.lists.specs.Elements.{Perm, keep, flip, also, All}
use Rattle.lists.proofs.Perm.{perm_refl, all_map}

-- each element can be brought to the front
pub record FirstOf {A : Type 0} (xs : List A) (x : A) : Type 0 where
  pub rest : List A
  pub first : Perm xs (x ∷ rest)

pub all_first : {A : Type 0} (xs : List A) → All (FirstOf xs) xs
all_first [] = tt
all_first (x ∷ xs) = (
  record { rest = xs; first = perm_refl (x ∷ xs) },
  all_map (FirstOf xs) (FirstOf (x ∷ xs)) (λ y f. record { rest = x ∷ f.rest; first = also (keep x f.first) (flip x y f.rest) }) xs (all_first xs),
)

pub empty_nil : {A : Type 0} (xs : List A) → T (is_empty xs) → xs ≡ []
empty_nil [] t = refl
empty_nil (x ∷ xs) t = absurd t

pub first_of_three : (a b c : Bool) → T (a && b && c) → T a
first_of_three true b c t = tt
first_of_three false b c t = t
