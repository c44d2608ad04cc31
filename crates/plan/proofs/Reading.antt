-- One sheet's part of a plan: where it is, and where there is none.
use Rattle.std.specs.Prelude.{if◌then◌else◌, Option, Some, None, option_map, unwrap_or}
use Rattle.std.proofs.Common.{Bor, inl, inr}
use Rattle.std.specs.Slice.{IsGetRangeResult}
use Rattle.std.proofs.Math.Logic.{◌⊎◌}
use Prim.Native.Nat.{ℕ, ◌+◌, ◌≤◌, ◌<◌}
use native.Mathlib.Nat.{add-sub_cancel_left}
use native.Mathlib.Omega.{arith}
use mathlib.Core.Path.{◌≡◌, refl, sym, ap, ◌∙◌}
use mathlib.Core.Bool.{Bool, true, false, ◌&&◌}
use mathlib.Core.List.{List, []}
use lib.Dec.{leb, ltb}
use lib.ListN.{length, get_or, take, drop}
use borrow.Author.Tests.{leb-true, ltb-true, lt-ltb, le-leb}
use Rattle.model.specs.Plan.{entry_of, part_of, sheet_part}
use Rattle.plan.specs.Sheets.{part_named}

module _ (p : List ℕ) (k : ℕ) where
  abbrev start : ℕ
  start = get_or p (entry_of k) 0

  abbrev size : ℕ
  size = get_or p (entry_of k + 1) 0

  pub part_none : (k < get_or p 0 0 → entry_of k + 2 ≤ length p → start + size ≤ length p → ⊥) → part_named p k ≡ None
  unfolding part_named
  part_none h =
      go (ltb k (get_or p 0 0)) (leb (entry_of k + 2) (length p)) (leb (start + size) (length p)) (ltb-true k (get_or p 0 0)) (leb-true (entry_of k + 2) (length p)) (leb-true (start + size) (length p))
    where
      go : (b c d : Bool) → (b ≡ true → k < get_or p 0 0) → (c ≡ true → entry_of k + 2 ≤ length p) → (d ≡ true → start + size ≤ length p)
          → (if b && c && d then Some (take size (drop start p)) else None) ≡ None
      go true true true y z w = absurd (h (y refl) (z refl) (w refl))
      go true true false y z w = refl
      go true false d y z w = refl
      go false c d y z w = refl

  part_some : k < get_or p 0 0 → entry_of k + 2 ≤ length p → start + size ≤ length p → part_named p k ≡ Some (take size (drop start p))
  unfolding part_named
  part_some inside entry fits = rw (lt-ltb k (get_or p 0 0) inside, le-leb (entry_of k + 2) (length p) entry, le-leb (start + size) (length p) fits)

  -- what the slice answers for the part
  pub part_found : (from n : ℕ) → from ≡ start → n ≡ size → k < get_or p 0 0 → entry_of k + 2 ≤ length p → (r : Option (Bor (List ℕ))) → IsGetRangeResult p from (from + n) r
      → option_map (λ part. part.now) r ≡ part_named p k
  part_found from n e f inside entry None got = sym (part_none (λ b c fits. of_sum got.0 (omega arith)))
    where
      of_sum : (from + n < from) ⊎ (length p < from + n) → from + n ≤ length p → ⊥
      of_sum (inl h) k = omega arith
      of_sum (inr h) k = omega arith
  part_found from n e f inside entry (Some part) got =
      ap Some (got.0.2 ∙ ap (λ (m : ℕ). take m (drop from p)) (add-sub_cancel_left from n)) ∙ rw (e, f) (sym (part_some inside entry (omega (arith, got.0.1))))

  -- the definition's part, which is empty where there is none
  named_is_part : unwrap_or (part_named p k) [] ≡ sheet_part p k
  unfolding part_named sheet_part part_of
  named_is_part =
      go (leb 4 (length p)) (ltb k (get_or p 0 0)) (leb (entry_of k + 2) (length p)) (leb (start + size) (length p)) (λ e. (let entry = leb-true (entry_of k + 2) (length p) e in le-leb 4 (length p) (omega arith)))
    where
      go : (a b c d : Bool) → (c ≡ true → a ≡ true)
          → unwrap_or (if b && c && d then Some (take size (drop start p)) else None) [] ≡ (if a && b && c then (if d then take size (drop start p) else []) else [])
      go true true true true x = refl
      go true true true false x = refl
      go true true false d x = refl
      go true false c d x = refl
      go false true true d x = (let no : false ≡ true = x refl in cc)
      go false true false d x = refl
      go false false c d x = refl

  pub named_words : (part : Option (Bor (List ℕ))) → option_map (λ part. part.now) part ≡ part_named p k → unwrap_or (option_map (λ part. part.now) part) [] ≡ sheet_part p k
  named_words part e = ap (λ (o : Option (List ℕ)). unwrap_or o []) e ∙ named_is_part
