-- The place that an insertion finds: a free rectangle at its index, with a legal fit at its corner.
use Rattle.std.specs.Prelude.{if◌then◌else◌}
use Prim.Native.Nat.{ℕ, suc, ◌≤◌, ◌<◌}
use native.Mathlib.Omega.{arith}
use mathlib.Core.Path.{◌≡◌, refl, subst}
use mathlib.Core.Bool.{Bool, true, false, ◌&&◌}
use mathlib.Core.List.{List, [], ◌∷◌, ◌++◌, append_assoc}
use mathlib.Core.Option.{some, some-injective, none-ne-some}
use lib.Dec.{T, leb, leb→le}
use lib.ListN.{length, get_or, length-append}
use lib.Seq.{get_or-append_seam}
use Rattle.lists.specs.Base.{enumerate, enumerate_from, keep_best, first_best}
use Rattle.lists.specs.Elements.{All}
use Rattle.model.specs.declared.Rect.{Rect}
use Rattle.model.specs.declared.CutInstance.{CutInstance}
use Rattle.model.specs.declared.FitResult.{FitResult}
use Rattle.model.specs.declared.PatternDirection.{PatternDirection}
use Rattle.model.specs.declared.RotationPreference.{RotationPreference}
use Rattle.model.specs.Types.{no_rect}
use Rattle.model.specs.Fit.{pattern_matches, rotate_pattern, upright_test, upright_result, turning_matters, rotated_test, rotated_result, upright_fit, rotated_fit, fit_cut_in_rects}
use Rattle.model.specs.Sheet.{GuillotineSheet, Insertion, Place, places, best_place, insert_at, try_insert}
use Rattle.trust.specs.Sound.{Lies, turned, upright}
use Rattle.lists.proofs.Perm.{all_append}
use Rattle.lists.proofs.Options.{through}
use Rattle.lists.proofs.Every.{all_if, map_all, concat_map_all}
use Rattle.trust.proofs.Truth.{and_split}
use Rattle.trust.proofs.RectLayout.{Corner}

-- ---- a fit

pub record Fits (cut : CutInstance) (stock : PatternDirection) (free : Rect) (f : FitResult) : Type 0 where
  pub corner : Corner free f.rect
  pub lies : Lies cut f
  pub grain : T (pattern_matches f.pattern stock)

-- a pattern and two sides that fit
sides : (m : Bool) (a b c d : ℕ) → T (m && leb a b && leb c d) → T m × (a ≤ b) × (c ≤ d)
sides m a b c d t =
    let u = and_split (m && leb a b) (leb c d) t in
    let v = and_split m (leb a b) u.0 in
    (v.0, leb→le a b v.1, leb→le c d u.1)

module _ (cut : CutInstance) (stock : PatternDirection) (free : Rect) where
  upright_fits : All (Fits cut stock free) (upright_fit cut stock free)
  unfolding upright_fit upright_test
  upright_fits = all_if (Fits cut stock free) (upright_test cut stock free) (upright_result cut free) λ t.
      let s = sides (pattern_matches cut.pattern stock) cut.width free.width cut.length free.length t in
      record { corner = record { x = refl; y = refl; width = s.1; length = s.2 }; lies = upright refl refl refl refl; grain = s.0 }

  rotated_fits : All (Fits cut stock free) (rotated_fit cut stock free)
  unfolding rotated_fit rotated_test
  rotated_fits = all_if (Fits cut stock free) (rotated_test cut stock free) (rotated_result cut free) λ t.
      let m = pattern_matches (rotate_pattern cut.pattern) stock in
      let u = and_split (cut.can_rotate && turning_matters cut) (m && leb cut.length free.width && leb cut.width free.length) t in
      let v = and_split cut.can_rotate (turning_matters cut) u.0 in
      let s = sides m cut.length free.width cut.width free.length u.1 in
      record { corner = record { x = refl; y = refl; width = s.1; length = s.2 }; lies = turned v.0 refl refl refl refl; grain = s.0 }

  pub fits_all : (r : RotationPreference) → All (Fits cut stock free) (fit_cut_in_rects cut stock free r)
  unfolding fit_cut_in_rects
  fits_all RotationPreference.PreferUpright = all_append _ (upright_fit cut stock free) (rotated_fit cut stock free) upright_fits rotated_fits
  fits_all RotationPreference.PreferRotated = all_append _ (rotated_fit cut stock free) (upright_fit cut stock free) rotated_fits upright_fits

-- ---- lists: what all elements have, the chosen one has

module _ {A : Type 0} (P : A → Type 0) (better : A → A → Bool) where
  pick_all : (b : Bool) (x y : A) → P x → P y → P (if b then x else y)
  pick_all true x y h k = h
  pick_all false x y h k = k

  keep_best_all : (best : A) (xs : List A) → P best → All P xs → P (keep_best better best xs)
  unfolding keep_best
  keep_best_all best [] h k = h
  keep_best_all best (x ∷ xs) h k = keep_best_all (if better x best then x else best) xs (pick_all (better x best) x best k.0 h) k.1

  pub first_best_all : (xs : List A) (x : A) → All P xs → first_best better xs ≡ some x → P x
  unfolding first_best
  first_best_all [] x k e = absurd (none-ne-some x e)
  first_best_all (y ∷ xs) x k e = subst P (some-injective _ _ e) (keep_best_all y xs k.0 k.1)

module _ {A : Type 0} (d : A) where
  abbrev pub At : List A → ℕ × A → Type 0
  At xs e = (e.0 < length xs) × (get_or xs e.0 d ≡ e.1)

  enumerate_from_at : (n : ℕ) (pre xs : List A) → n ≡ length pre → All (At (pre ++ xs)) (enumerate_from n xs)
  unfolding enumerate_from
  enumerate_from_at n pre [] e = tt
  enumerate_from_at n pre (x ∷ xs) e = (
    (simp (length-append) (omega arith), rw e (get_or-append_seam pre x xs d)),
    subst (λ (l : List A). All (At l) (enumerate_from (suc n) xs)) (append_assoc pre (x ∷ []) xs) (enumerate_from_at (suc n) (pre ++ (x ∷ [])) xs (simp length-append (omega arith))),
  )

  pub enumerate_at : (xs : List A) → All (At xs) (enumerate xs)
  enumerate_at xs = enumerate_from_at 0 [] xs refl

-- ---- the place

pub record Good (sheet : GuillotineSheet) (i : Insertion) (p : Place) : Type 0 where
  pub inside : p.index < length sheet.free_rects
  pub there : get_or sheet.free_rects p.index no_rect ≡ p.free_rect
  pub fits : Fits i.cut sheet.stock.pattern p.free_rect p.fit

pub places_good : (sheet : GuillotineSheet) (i : Insertion) → All (Good sheet i) (places sheet i)
unfolding places
places_good sheet i =
    concat_map_all (At no_rect sheet.free_rects) (Good sheet i) _
    (λ x h. map_all (Fits i.cut sheet.stock.pattern x.1) (Good sheet i) _ (λ f k. record { inside = h.0; there = h.1; fits = k })
    (fit_cut_in_rects i.cut sheet.stock.pattern x.1 i.heuristic.rotation)
    (fits_all i.cut sheet.stock.pattern x.1 i.heuristic.rotation))
    (enumerate sheet.free_rects) (enumerate_at no_rect sheet.free_rects)

pub best_place_good : (sheet : GuillotineSheet) (i : Insertion) (p : Place) → best_place sheet i ≡ some p → Good sheet i p
unfolding best_place
best_place_good sheet i p e = first_best_all (Good sheet i) _ (places sheet i) p (places_good sheet i) e

-- ---- an insertion

module _ (P : GuillotineSheet → Type 0) (kerf : ℕ) (s : GuillotineSheet) (i : Insertion) (t : GuillotineSheet) where
  -- what holds at the best place holds of its sheet
  pub at_best : ((p : Place) → best_place s i ≡ some p → P (insert_at kerf s i p)) → try_insert kerf s i ≡ some t → P t
  unfolding try_insert
  at_best f e =
      let b = through (best_place s i) (λ p. some (insert_at kerf s i p)) t e in
      subst P (some-injective _ _ b.rest) (f b.value b.first)

  pub at_place : ((p : Place) → Good s i p → P (insert_at kerf s i p)) → try_insert kerf s i ≡ some t → P t
  at_place f e = at_best (λ p b. f p (best_place_good s i p b)) e
