-- Lists up to order, and what holds of all elements or of all pairs of a list.
use Rattle.std.specs.Prelude.{List, [], ◌∷◌}

module _ {A : Type 0} where
  -- the same elements, each as often, in some order
  pub data Perm : List A → List A → Type 0 where
    done : Perm [] []
    keep : (x : A) {xs ys : List A} → Perm xs ys → Perm (x ∷ xs) (x ∷ ys)
    flip : (x y : A) (xs : List A) → Perm (x ∷ y ∷ xs) (y ∷ x ∷ xs)
    also : {xs ys zs : List A} → Perm xs ys → Perm ys zs → Perm xs zs

  abbrev pub All : (A → Type 0) → List A → Type 0
  All P [] = Unit
  All P (x ∷ xs) = P x × All P xs

  -- each element with every later one
  abbrev pub Pairs : (A → A → Type 0) → List A → Type 0
  Pairs R [] = Unit
  Pairs R (x ∷ xs) = All (R x) xs × Pairs R xs
