-- The insertion at a place, call by call, over values: what each call needs, and what the last one leaves.
use Prim.Native.Nat.{ℕ, ◌+◌, ◌<◌}
use native.Mathlib.Omega.{arith}
use mathlib.Core.Path.{◌≡◌, refl, ap, ◌∙◌}
use mathlib.Core.List.{List, ◌++◌}
use mathlib.Core.Bool.{Bool}
use lib.ListN.{length, take}
use lib.Seq.{take_at}
use Rattle.lists.specs.Base.{swap_remove}
use Rattle.lists.proofs.Perm.{all_append}
use Rattle.lists.proofs.Every.{all_get}
use Rattle.lists.proofs.Arrays.{swap_length}
use Rattle.model.specs.declared.Rect.{Rect}
use Rattle.model.specs.declared.Direction.{Direction}
use Rattle.model.specs.Types.{no_rect}
use Rattle.model.specs.Split.{split_free_rect}
use Rattle.model.specs.Merge.{merge_free_rects, merges_any}
use Rattle.sheet.specs.Bounds.{Small, Inside}
use Rattle.sheet.proofs.split.Remainders.{split_small, swap_small}
use Rattle.sheet.specs.Merging.{Scannable}
use Rattle.sheet.proofs.merging.Apart.{swap_apart}
use Rattle.sheet.specs.Insertions.{split_by, Insertable, At, Replaces}

module _ (kerf : ℕ) (free : List Rect) (i : ℕ) (r p : Rect) (d : Direction) (ready : Insertable kerf free) (at : At free i r) (inside : Inside p r) where
  pub small_rect : Small r
  small_rect = rw at.there at (all_get Small free i no_rect ready.ready.small at.inside)

  -- the rectangle at the index removed, and the remainders pushed
  module _ (g : List Rect) (removed : g ≡ swap_remove no_rect i free) where
    pub room : length g + 1 < 65
    room = rw removed (omega (arith, swap_length no_rect free i at.inside, at.inside, ready.few))

    module _ (h : List Rect) (parted : h ≡ g ++ split_free_rect d kerf r p) where
      whole : h ≡ split_by kerf i r p d free
      unfolding split_by
      whole = parted ∙ rw removed

      -- the old rectangles come first, and no pair of them merges
      pub scannable : Scannable kerf h (length g)
      scannable =
          let new = split_free_rect d kerf r p in
          let first : take (length g) h ≡ g = rw parted (take_at g new (length g) refl) in
          record {
            thin = ready.ready.thin;
            small = rw (parted, removed) (all_append Small (swap_remove no_rect i free) new (swap_small free i at.inside ready.ready.small) (split_small kerf r p small_rect inside d));
            apart = rw (first, removed) (swap_apart kerf free i at.inside ready.ready.apart);
          }

      pub replaced : (m : List Rect) (any : Bool) → m ≡ merge_free_rects kerf h → any ≡ merges_any kerf h → Replaces kerf (split_by kerf i r p d free) m any
      replaced m any merged flag = record { rects = merged ∙ ap (merge_free_rects kerf) whole; any = flag ∙ ap (merges_any kerf) whole }
