-- The place that the source takes is a choice of Jylänki's measure, and it takes one wherever a free rectangle holds the piece.
use Rattle.std.specs.Prelude.{if◌then◌else◌}
use Prim.Native.Nat.{ℕ, zero, suc, ◌≤◌, ◌<◌}
use native.Mathlib.Nat.{le_of_suc-le-suc, not-suc-le-zero}
use mathlib.Core.Path.{◌≡◌, refl, sym, ap, subst}
use mathlib.Core.Logic.{◌⊎◌, inl, inr}
use mathlib.Core.Bool.{Bool, true, false, not, ◌&&◌, ◌||◌}
use mathlib.Core.List.Memᴰ
use mathlib.Core.List.{List, [], ◌∷◌, map, Memᴰ}
use mathlib.Core.Option.{none, some, some-ne-none}
use lib.Dec.{T, leb, eqb, le→leb, eqb→eq}
use lib.ListN.{length, get_or}
use Rattle.lists.specs.Base.{concat_map, enumerate_from, first_best}
use Rattle.lists.specs.Elements.{All}
use Rattle.model.specs.declared.PatternDirection.{PatternDirection}
use Rattle.model.specs.declared.RotationPreference.{RotationPreference}
use Rattle.model.specs.declared.Rect.{Rect}
use Rattle.model.specs.declared.CutInstance.{CutInstance}
use Rattle.model.specs.declared.FitResult.{FitResult}
use Rattle.model.specs.Types.{no_rect, pattern_code}
use Rattle.model.specs.Fit.{same_pattern, pattern_matches, rotate_pattern, upright_test, upright_result, turning_matters, rotated_test, rotated_result, upright_fit, rotated_fit, fit_cut_in_rects}
use Rattle.model.specs.Sheet.{GuillotineSheet, Insertion, Place, places, score_less, best_place}
use Rattle.model.specs.Jylanki.{Measure, Holds, Chosen}
use Rattle.trust.specs.Sound.{Lies, turned, upright}
use Rattle.lists.proofs.Perm.{all_left, all_right}
use Rattle.trust.proofs.Truth.{and_intro}
use Rattle.trust.proofs.Placing.{Good, best_place_good}
use Rattle.trust.proofs.Choice.{paper_measure, best_place_least}

-- how a cut may lie on a board of a pattern: upright, or turned if that is allowed, its grain legal
pub Way : CutInstance → PatternDirection → ℕ → ℕ → Type 0
Way cut stock w l =
    (T (pattern_matches cut.pattern stock) × (w ≡ cut.width) × (l ≡ cut.length))
    ⊎ (T cut.can_rotate × T (pattern_matches (rotate_pattern cut.pattern) stock) × (w ≡ cut.length) × (l ≡ cut.width))

-- ---- every way that a rectangle holds is among the fits

is_in : {A : Type 0} (P : A → Type 0) (b : Bool) (x : A) → T b → All P (if b then x ∷ [] else []) → P x
is_in P true x t h = h.0
is_in P false x t h = absurd t

-- a pattern and two sides that fit
fitting : (m : Bool) (a b c d : ℕ) → T m → a ≤ b → c ≤ d → T (m && leb a b && leb c d)
fitting m a b c d t h k = and_intro (m && leb a b) (leb c d) (and_intro m (leb a b) t (le→leb a b h)) (le→leb c d k)

module _ (cut : CutInstance) (stock : PatternDirection) (free : Rect) (P : FitResult → Type 0) where
  upright_in : T (pattern_matches cut.pattern stock) → Holds free cut.width cut.length → All P (upright_fit cut stock free) → P (upright_result cut free)
  unfolding upright_fit upright_test
  upright_in t h k =
      is_in P (upright_test cut stock free) (upright_result cut free)
      (fitting (pattern_matches cut.pattern stock) cut.width free.width cut.length free.length t h.0 h.1) k

  rotated_in : T cut.can_rotate → T (turning_matters cut) → T (pattern_matches (rotate_pattern cut.pattern) stock) → Holds free cut.length cut.width
      → All P (rotated_fit cut stock free) → P (rotated_result cut free)
  unfolding rotated_fit rotated_test
  rotated_in c m t h k =
      let grain = pattern_matches (rotate_pattern cut.pattern) stock in
      is_in P (rotated_test cut stock free) (rotated_result cut free)
      (and_intro (cut.can_rotate && turning_matters cut) (grain && leb cut.length free.width && leb cut.width free.length)
      (and_intro cut.can_rotate (turning_matters cut) c m)
      (fitting grain cut.length free.width cut.width free.length t h.0 h.1)) k

  fits_split : (r : RotationPreference) → All P (fit_cut_in_rects cut stock free r) → All P (upright_fit cut stock free) × All P (rotated_fit cut stock free)
  unfolding fit_cut_in_rects
  fits_split RotationPreference.PreferUpright h = (all_left P (upright_fit cut stock free) (rotated_fit cut stock free) h, all_right P (upright_fit cut stock free) (rotated_fit cut stock free) h)
  fits_split RotationPreference.PreferRotated h = (all_right P (rotated_fit cut stock free) (upright_fit cut stock free) h, all_left P (rotated_fit cut stock free) (upright_fit cut stock free) h)

-- turning that changes nothing: a square of a pattern that stays
record Unturned (cut : CutInstance) : Type 0 where
  square : cut.width ≡ cut.length
  grain : (stock : PatternDirection) → pattern_matches (rotate_pattern cut.pattern) stock ≡ pattern_matches cut.pattern stock

same_matches : (p q stock : PatternDirection) → T (same_pattern p q) → pattern_matches p stock ≡ pattern_matches q stock
unfolding same_pattern pattern_matches
same_matches p q stock t = ap (λ (k : ℕ). (eqb k 0 || eqb (pattern_code stock) 0) || eqb k (pattern_code stock)) (eqb→eq (pattern_code p) (pattern_code q) t)

matters_or : (cut : CutInstance) → T (turning_matters cut) ⊎ Unturned cut
unfolding turning_matters
matters_or cut = go (eqb cut.width cut.length) refl (same_pattern (rotate_pattern cut.pattern) cut.pattern) refl
  where
    go : (a : Bool) → eqb cut.width cut.length ≡ a → (b : Bool) → same_pattern (rotate_pattern cut.pattern) cut.pattern ≡ b
        → T (not a || not b) ⊎ Unturned cut
    go true e true f =
        inr (record {
          square = eqb→eq cut.width cut.length (subst T (sym e) tt);
          grain = λ stock. same_matches (rotate_pattern cut.pattern) cut.pattern stock (subst T (sym f) tt);
        })
    go true e false f = inl tt
    go false e b f = inl tt

-- a property of sizes that all fits of a rectangle have, each way that it holds has
way_has : (cut : CutInstance) (stock : PatternDirection) (free : Rect) (r : RotationPreference) (Q : ℕ → ℕ → Type 0)
    → All (λ f. Q f.rect.width f.rect.length) (fit_cut_in_rects cut stock free r) → (w l : ℕ) → Way cut stock w l → Holds free w l → Q w l
unfolding Way
way_has cut stock free r Q h w l (inl u) k =
    let same : Q cut.width cut.length =
    upright_in cut stock free _ u.0 (subst (λ (n : ℕ). Holds free n cut.length) u.1 (subst (λ (n : ℕ). Holds free w n) u.2 k)) (fits_split cut stock free _ r h).0
    in
    subst (λ (n : ℕ). Q n l) (sym u.1) (subst (λ (n : ℕ). Q cut.width n) (sym u.2) same)
way_has cut stock free r Q h w l (inr u) k = subst (λ (n : ℕ). Q n l) (sym u.2) (subst (λ (n : ℕ). Q cut.length n) (sym u.3) (go (matters_or cut)))
  where
    fits : Holds free cut.length cut.width
    fits = subst (λ (n : ℕ). Holds free n cut.width) u.2 (subst (λ (n : ℕ). Holds free w n) u.3 k)

    go : T (turning_matters cut) ⊎ Unturned cut → Q cut.length cut.width
    go (inl m) = rotated_in cut stock free _ u.0 m u.1 fits (fits_split cut stock free _ r h).1
    go (inr t) =
        let here : Q cut.width cut.length =
        upright_in cut stock free _ (subst T (t.grain stock) u.1) (subst (λ (n : ℕ). Holds free n cut.length) (sym t.square) (subst (λ (n : ℕ). Holds free cut.length n) t.square fits)) (fits_split cut stock free _ r h).0
        in
        subst (λ (n : ℕ). Q n cut.width) t.square (subst (λ (n : ℕ). Q cut.width n) (sym t.square) here)

-- ---- every rectangle's fits are among the places

module _ (cut : CutInstance) (stock : PatternDirection) (rotation : RotationPreference) (Q : Rect → FitResult → Type 0) where
  unmapped : (k : ℕ) (r : Rect) (fs : List FitResult) → All (λ (p : Place). Q p.free_rect p.fit) (map (λ f. record { index = k; free_rect = r; fit = f }) fs) → All (Q r) fs
  unmapped k r [] h = tt
  unmapped k r (f ∷ fs) h = (h.0, unmapped k r fs h.1)

  places_of : (n : ℕ) (q : Rect) (frees : List Rect) → Memᴰ q frees
      → All (λ (p : Place). Q p.free_rect p.fit)
      (concat_map (λ (k, r). map (λ f. record { index = k; free_rect = r; fit = f }) (fit_cut_in_rects cut stock r rotation)) (enumerate_from n frees))
      → All (Q q) (fit_cut_in_rects cut stock q rotation)
  unfolding concat_map enumerate_from
  places_of n q [] m h = absurd (Memᴰ.not-nil m)
  places_of n q (r ∷ frees) m h =
      let here : List Place = map (λ f. record { index = n; free_rect = r; fit = f }) (fit_cut_in_rects cut stock r rotation) in
      go (Memᴰ.cases_cons m) (unmapped n r (fit_cut_in_rects cut stock r rotation) (all_left _ here _ h))
      (λ v. places_of (suc n) q frees v (all_right _ here _ h))
    where
      go : (q ≡ r) ⊎ Memᴰ q frees → All (Q r) (fit_cut_in_rects cut stock r rotation)
          → (Memᴰ q frees → All (Q q) (fit_cut_in_rects cut stock q rotation)) → All (Q q) (fit_cut_in_rects cut stock q rotation)
      go (inl e) first later = subst (λ (x : Rect). All (Q x) (fit_cut_in_rects cut stock x rotation)) (sym e) first
      go (inr v) first later = later v

-- ---- the place

mem_at : (rs : List Rect) (k : ℕ) → k < length rs → Memᴰ (get_or rs k no_rect) rs
mem_at [] k h = absurd (not-suc-le-zero h)
mem_at (r ∷ rs) zero h = Memᴰ.head refl
mem_at (r ∷ rs) (suc k) h = Memᴰ.tail (mem_at rs k (le_of_suc-le-suc h))

module _ (sheet : GuillotineSheet) (i : Insertion) where
  abbrev measure : Measure
  measure = paper_measure i.heuristic.rect_choice

  abbrev MayLie : ℕ → ℕ → Type 0
  MayLie = Way i.cut sheet.stock.pattern

  -- a property of sizes in rectangles that all places have
  everywhere : (Q : Rect → ℕ → ℕ → Type 0) → All (λ p. Q p.free_rect p.fit.rect.width p.fit.rect.length) (places sheet i)
      → (q : Rect) → Memᴰ q sheet.free_rects → (v k : ℕ) → MayLie v k → Holds q v k → Q q v k
  unfolding places
  everywhere Q h q m v k =
      way_has i.cut sheet.stock.pattern q i.heuristic.rotation (Q q)
      (places_of i.cut sheet.stock.pattern i.heuristic.rotation (λ r f. Q r f.rect.width f.rect.length) 0 q sheet.free_rects m h) v k

  lies_way : (p : Place) → Good sheet i p → MayLie p.fit.rect.width p.fit.rect.length
  unfolding Way
  lies_way p g = go g.fits.lies
    where
      go : Lies i.cut p.fit → MayLie p.fit.rect.width p.fit.rect.length
      go (upright w l q r) = inl (subst (λ (x : PatternDirection). T (pattern_matches x sheet.stock.pattern)) q g.fits.grain, w, l)
      go (turned t w l q r) = inr (t, subst (λ (x : PatternDirection). T (pattern_matches x sheet.stock.pattern)) q g.fits.grain, w, l)

  pub chosen : (p : Place) → best_place sheet i ≡ some p
      → Chosen measure sheet.free_rects MayLie p.free_rect p.fit.rect.width p.fit.rect.length
  chosen p e =
      let g = best_place_good sheet i p e in
      record {
        among = subst (λ (r : Rect). Memᴰ r sheet.free_rects) g.there (mem_at sheet.free_rects p.index g.inside);
        way = lies_way p g;
        holds = (g.fits.corner.width, g.fits.corner.length);
        least = everywhere (λ r w l. measure p.free_rect p.fit.rect.width p.fit.rect.length ≤ measure r w l) (best_place_least sheet i p e);
      }

  none_empty : first_best (score_less i.heuristic) (places sheet i) ≡ none → places sheet i ≡ []
  unfolding first_best
  none_empty e = go (places sheet i) e
    where
      go : (ps : List Place) → first_best (score_less i.heuristic) ps ≡ none → ps ≡ []
      go [] e = refl
      go (p ∷ ps) e = absurd (some-ne-none _ e)

  -- where no place is found, no free rectangle holds the piece
  pub unchosen : best_place sheet i ≡ none → (q : Rect) → Memᴰ q sheet.free_rects → (v k : ℕ) → MayLie v k → Holds q v k → ⊥
  unfolding best_place
  unchosen e = everywhere (λ r w l. ⊥) (subst (λ (ps : List Place). All (λ p. ⊥) ps) (sym (none_empty e)) tt)
