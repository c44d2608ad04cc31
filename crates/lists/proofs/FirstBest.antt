-- The first best of a list, by a comparison that orders its elements: better than all before it, and no worse than any after it.
use Rattle.std.specs.Prelude.{if◌then◌else◌}
use Prim.Native.Nat.{Ordering}
use mathlib.Core.Path.{◌≡◌, refl, sym, ap, ◌∙◌, subst}
use mathlib.Core.Bool.{Bool, true, false, true≢false, false≢true}
use mathlib.Core.List.{List, [], ◌∷◌, ◌++◌, append_assoc, append-nil}
use mathlib.Core.Option.{some, some-injective, none-ne-some}
use Rattle.lists.specs.Base.{is_greater, keep_best, first_best}
use Rattle.lists.specs.Elements.{All}
use Rattle.lists.proofs.Perm.{all_both, all_left, all_right, all_append}
use Rattle.lists.proofs.Preorder.{flipped, Chained, Preorder}

module _ {A : Type 0} (cmp : A → A → Ordering) where
  -- where it stands, and how the others compare with it
  pub record First (xs : List A) (x : A) : Type 0 where
    pub before : List A
    pub after : List A
    pub split : xs ≡ before ++ x ∷ after
    pub worse : All (λ y. cmp y x ≡ Ordering.lt) before
    pub no_better : All (λ y. is_greater (cmp y x) ≡ false) after

module _ {A : Type 0} (On : A → Type 0) (cmp : A → A → Ordering) (p : Preorder On cmp) (better : A → A → Bool)
    (agree : (a b : A) → On a → On b → better a b ≡ is_greater (cmp a b)) where
  is_greater_lem : (o : Ordering) → is_greater o ≡ true → o ≡ Ordering.gt
  is_greater_lem Ordering.lt e = absurd (false≢true e)
  is_greater_lem Ordering.eq e = absurd (false≢true e)
  is_greater_lem Ordering.gt e = refl

  -- what is not better than a worse one is worse
  below : (y b x : A) → On y → On b → On x → is_greater (cmp y b) ≡ false → cmp b x ≡ Ordering.lt → cmp y x ≡ Ordering.lt
  below y b x i j k = go (cmp y b) (cmp b x) (cmp y x) (p.chained y b x i j k)
    where
      go : (o q r : Ordering) → Chained o q r → is_greater o ≡ false → q ≡ Ordering.lt → r ≡ Ordering.lt
      go Ordering.lt q r h e f = subst (λ (z : Ordering). Chained Ordering.lt z r) f h
      go Ordering.eq q r h e f = h ∙ f
      go Ordering.gt q r h e f = absurd (true≢false e)

  keep_first : (done : List A) (best : A) (xs : List A) → All On done → On best → First cmp done best → All On xs → First cmp (done ++ xs) (keep_best better best xs)
  unfolding keep_best
  keep_first done best [] d i f h = subst (λ (l : List A). First cmp l best) (sym (append-nil done)) f
  keep_first done best (x ∷ xs) d i f h =
      subst (λ (l : List A). First cmp l (keep_best better (if better x best then x else best) xs)) (append_assoc done (x ∷ []) xs)
      (keep_first (done ++ (x ∷ [])) (if better x best then x else best) xs (all_append On done (x ∷ []) d (h.0, tt)) (held (better x best)) (next (better x best) (agree x best h.0 i)) h.1)
    where
      held : (b : Bool) → On (if b then x else best)
      held true = h.0
      held false = i

      parts : All On (f.before ++ best ∷ f.after)
      parts = subst (All On) f.split d

      -- all that came before a better one are worse than it
      passed : cmp x best ≡ Ordering.gt → All (λ y. cmp y x ≡ Ordering.lt) done
      passed g =
          let down : cmp best x ≡ Ordering.lt = p.turned x best h.0 i ∙ ap flipped g in
          subst (All (λ y. cmp y x ≡ Ordering.lt)) (sym f.split)
          (all_append (λ y. cmp y x ≡ Ordering.lt) f.before (best ∷ f.after)
          (all_both On (λ y. cmp y best ≡ Ordering.lt) (λ y. cmp y x ≡ Ordering.lt) (λ y j k. below y best x j i h.0 (ap is_greater k) down) f.before (all_left On f.before (best ∷ f.after) parts) f.worse)
          (down, all_both On (λ y. is_greater (cmp y best) ≡ false) (λ y. cmp y x ≡ Ordering.lt) (λ y j k. below y best x j i h.0 k down) f.after (all_right On f.before (best ∷ f.after) parts).1 f.no_better))

      next : (b : Bool) → b ≡ is_greater (cmp x best) → First cmp (done ++ (x ∷ [])) (if b then x else best)
      next true e = record { before = done; after = []; split = refl; worse = passed (is_greater_lem (cmp x best) (sym e)); no_better = tt }
      next false e =
          record {
            before = f.before;
            after = f.after ++ (x ∷ []);
            split = ap (λ (l : List A). l ++ (x ∷ [])) f.split ∙ append_assoc f.before (best ∷ f.after) (x ∷ []);
            worse = f.worse;
            no_better = all_append (λ y. is_greater (cmp y best) ≡ false) f.after (x ∷ []) f.no_better (sym e, tt);
          }

  pub first_best_lem : (xs : List A) (x : A) → All On xs → first_best better xs ≡ some x → First cmp xs x
  unfolding first_best
  first_best_lem [] x h e = absurd (none-ne-some x e)
  first_best_lem (y ∷ ys) x h e =
      subst (First cmp (y ∷ ys)) (some-injective _ x e)
      (keep_first (y ∷ []) y ys (h.0, tt) h.0 (record { before = []; after = []; split = refl; worse = tt; no_better = tt }) h.1)
