-- A chain of options that ends in a value has one at every step, and a fold of such steps keeps what each of them keeps.
use mathlib.Core.Path.{◌≡◌, refl, subst}
use mathlib.Core.Bool.{false, false≢true, true, true≢false}
use mathlib.Core.List.{[], ◌++◌, ◌∷◌, List}
use mathlib.Core.Option.{Option, none-ne-some, some-injective, none, some}
use Rattle.lists.specs.Base.{◌>>=◌, fold_option, is_some, to_list}
use Rattle.lists.specs.Elements.{All}

module _ {A B : Type 0} where
  pub record Through (o : Option A) (f : A → Option B) (b : B) : Type 0 where
    pub value : A
    pub first : o ≡ some value
    pub rest : f value ≡ some b

  pub through : (o : Option A) (f : A → Option B) (b : B) → (o >>= f) ≡ some b → Through o f b
  through none f b e = absurd (none-ne-some b e)
  through (some a) f b e = record { value = a; first = refl; rest = e }

pub all_some : {A : Type 0} (P : A → Type 0) (o : Option A) → ((a : A) → o ≡ some a → P a) → All P (to_list o)
all_some P none f = tt
all_some P (some a) f = (f a refl, tt)

-- an option by whether there is one
pub none_by : {A : Type 0} (o : Option A) → is_some o ≡ false → o ≡ none
none_by none e = refl
none_by (some a) e = absurd (true≢false e)

pub some_by : {A : Type 0} (o : Option A) → is_some o ≡ true → (a : A) × (o ≡ some a)
some_by none e = absurd (false≢true e)
some_by (some a) e = (a, refl)

module _ {A B : Type 0} (f : B → A → Option B) where
  pub fold_append : (b : B) (xs ys : List A) → fold_option f b (xs ++ ys) ≡ (fold_option f b xs >>= λ c. fold_option f c ys)
  unfolding fold_option
  fold_append b [] ys = refl
  fold_append b (x ∷ xs) ys = go (f b x) (λ c. fold_append c xs ys)
    where
      go : (o : Option B) → ((c : B) → fold_option f c (xs ++ ys) ≡ (fold_option f c xs >>= λ d. fold_option f d ys))
          → (o >>= λ c. fold_option f c (xs ++ ys)) ≡ ((o >>= λ c. fold_option f c xs) >>= λ d. fold_option f d ys)
      go none later = refl
      go (some c) later = later c

  -- Q says of which elements
  pub fold_keeps : (P : B → Type 0) (Q : A → Type 0) → ((x : A) (b c : B) → Q x → f b x ≡ some c → P b → P c)
      → (xs : List A) → All Q xs → (b d : B) → P b → fold_option f b xs ≡ some d → P d
  unfolding fold_option
  fold_keeps P Q keeps [] q b d h e = subst P (some-injective _ _ e) h
  fold_keeps P Q keeps (x ∷ xs) q b d h e =
      let t = through (f b x) (λ c. fold_option f c xs) d e in
      fold_keeps P Q keeps xs q.1 t.value d (keeps x b t.value q.0 t.first h) t.rest
