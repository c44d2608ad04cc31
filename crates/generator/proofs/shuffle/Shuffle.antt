-- The shuffle of numbers that stand for keys is the definition's shuffle of the keys; and every shuffle is a permutation.
use Prim.Native.Nat.{ℕ, zero, suc, pred, ◌+◌, ◌-◌, ◌≤◌, ◌<◌}
use native.Mathlib.Nat.{mod-lt, zero-lt-suc}
use native.Mathlib.Omega.{arith}
use mathlib.Core.Path.{◌≡◌, refl, sym, ap, ap₂, ◌∙◌}
use mathlib.Core.List.{List, [], ◌∷◌, map}
use lib.ListN.{length}
use Rattle.lists.specs.Base.{swap}
use Rattle.lists.specs.Elements.{Perm, also}
use Rattle.lists.proofs.Perm.{perm_refl, swap_perm}
use Rattle.lists.proofs.Maps.{map_swap}
use Rattle.lists.proofs.Arrays.{length_swap}
use Rattle.lists.proofs.Sums.{length-map}
use Rattle.model.specs.declared.InstanceKey.{InstanceKey}
use Rattle.model.specs.Types.{no_key}
use Rattle.model.specs.TinyPrng.{next_state, value_of, index_of}
use Rattle.model.specs.Expand.{shuffle_from}
use Rattle.generator.specs.Shuffle.{shuffled_from, shuffled}

pub index_below : (state upper : ℕ) → 0 < upper → index_of state upper < upper
unfolding index_of
index_below state upper h = mod-lt (value_of state) h

-- ---- a shuffle, through a map and up to order

module _ {A : Type 0} (d : A) where
  -- the indexes of a turn, and that the next turn's index is within the list as well
  within : (i state : ℕ) (xs : List A) → suc i < length xs
      → (index_of (next_state state) (suc (suc i)) < length xs) × (i < length (swap d (suc i) (index_of (next_state state) (suc (suc i))) xs))
  within i state xs h =
      let j = index_of (next_state state) (suc (suc i)) in
      let below : j < suc (suc i) = index_below (next_state state) (suc (suc i)) (zero-lt-suc (suc i)) in
      (omega arith, omega (arith, length_swap d (suc i) j xs))

  from_perm : (i state : ℕ) (xs : List A) → i < length xs → Perm (shuffled_from d i state xs) xs
  unfolding shuffled_from
  from_perm zero state xs h = perm_refl xs
  from_perm (suc i) state xs h =
      let s = next_state state in
      let j = index_of s (suc (suc i)) in
      let w = within i state xs h in
      also (from_perm i s (swap d (suc i) j xs) w.1) (swap_perm d xs (suc i) j h w.0)

  pub shuffled_perm : (seed : ℕ) (xs : List A) → Perm (shuffled d seed xs) xs
  unfolding shuffled shuffled_from
  shuffled_perm seed [] = perm_refl []
  shuffled_perm seed (x ∷ xs) = from_perm (length (x ∷ xs) - 1) seed (x ∷ xs) (omega arith)

module _ {A B : Type 0} (f : A → B) (d : A) (e : B) where
  map_from : (i state : ℕ) (xs : List A) → i < length xs → map f (shuffled_from d i state xs) ≡ shuffled_from e i state (map f xs)
  unfolding shuffled_from
  map_from zero state xs h = refl
  map_from (suc i) state xs h =
      let s = next_state state in
      let j = index_of s (suc (suc i)) in
      let w = within d i state xs h in
      map_from i s (swap d (suc i) j xs) w.1 ∙ ap (shuffled_from e i s) (map_swap f d e (suc i) j xs h w.0)

  pub map_shuffled : (seed : ℕ) (xs : List A) → map f (shuffled d seed xs) ≡ shuffled e seed (map f xs)
  unfolding shuffled shuffled_from
  map_shuffled seed [] = refl
  map_shuffled seed (x ∷ xs) =
      map_from (length (x ∷ xs) - 1) seed (x ∷ xs) (omega arith)
      ∙ ap (λ (n : ℕ). shuffled_from e (n - 1) seed (map f (x ∷ xs))) (sym (length-map f (x ∷ xs)))

-- ---- the definition's shuffle of keys

keys_from : (i state : ℕ) (order : List InstanceKey) → shuffled_from no_key i state order ≡ shuffle_from i state order
unfolding shuffled_from shuffle_from
keys_from zero state order = refl
keys_from (suc i) state order = let s = next_state state in keys_from i s (swap no_key (suc i) (index_of s (suc (suc i))) order)

-- what `shuffle_cut_order` makes of numbers, read through the key that each number has, is what the source makes of the keys
pub shuffled_keys : (key : ℕ → InstanceKey) (seed : ℕ) (order : List ℕ) (keys : List InstanceKey) → map key order ≡ keys
    → map key (shuffled 0 seed order) ≡ shuffle_from (length keys - 1) seed keys
unfolding shuffled
shuffled_keys key seed order keys e =
    map_shuffled key 0 no_key seed order ∙ ap (shuffled no_key seed) e ∙ keys_from (length keys - 1) seed keys

-- ---- a turn of the loop

pub turn : (i state : ℕ) (xs : List ℕ) → 1 < i
    → shuffled_from 0 (pred i) state xs ≡ shuffled_from 0 (pred (i - 1)) (next_state state) (swap 0 (i - 1) (index_of (next_state state) (i - 1 + 1)) xs)
unfolding shuffled_from
turn zero state xs h = absurd (omega arith)
turn (suc zero) state xs h = absurd (omega arith)
turn (suc (suc k)) state xs h =
    let p : suc k ≡ suc (suc k) - 1 = omega arith in
    let q : suc (suc k) ≡ suc (suc k) - 1 + 1 = omega arith in
    ap₂ (λ (m n : ℕ). shuffled_from 0 (pred m) (next_state state) (swap 0 m (index_of (next_state state) n) xs)) p q

pub over : (i state : ℕ) (xs : List ℕ) → i ≤ 1 → shuffled_from 0 (pred i) state xs ≡ xs
unfolding shuffled_from
over zero state xs h = refl
over (suc zero) state xs h = refl
over (suc (suc k)) state xs h = absurd (omega arith)

pub whole : (seed : ℕ) (xs : List ℕ) → shuffled_from 0 (pred (length xs)) seed xs ≡ shuffled 0 seed xs
unfolding shuffled
whole seed xs = let e : pred (length xs) ≡ length xs - 1 = less_one (length xs) in ap (λ (n : ℕ). shuffled_from 0 n seed xs) e
  where
    less_one : (n : ℕ) → pred n ≡ n - 1
    less_one zero = refl
    less_one (suc n) = omega arith
