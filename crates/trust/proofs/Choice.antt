-- The place that an insertion takes is a choice after Jylänki: no place measures less by the paper's measure of the heuristic.
use Rattle.std.specs.Prelude.{if◌then◌else◌}
use Prim.Native.Nat.{ℕ, ◌*◌, ◌≤◌, compare, Ordering}
use native.Mathlib.Nat.{le_refl, le_trans, le_of_lt, le_of_eq, mul_comm, mul-le-mul}
use native.Mathlib.Omega.{arith}
use mathlib.Core.Path.{◌≡◌, refl, sym, ap, ◌∙◌, subst}
use mathlib.Core.Bool.{Bool, true, false, not, true≢false, false≢true}
use mathlib.Core.List.{List, [], ◌∷◌}
use mathlib.Core.Option.{some, some-injective}
use lib.Dec.{T, is_le, compare_is_eq, leb→le, nleb→lt, eqb→eq}
use Rattle.lists.specs.Base.{is_less, then_with, lexicographic, keep_best, first_best}
use Rattle.lists.specs.Elements.{All}
use Rattle.model.specs.declared.GuillotineRectChoice.{GuillotineRectChoice}
use Rattle.model.specs.declared.Rect.{Rect}
use Rattle.model.specs.declared.CutInstance.{CutInstance}
use Rattle.model.specs.declared.FitResult.{FitResult}
use Rattle.model.specs.Types.{area, cut_area}
use Rattle.model.specs.Choice.{area_waste, short_side, long_side, free_rect_choice_score}
use Rattle.model.specs.Sheet.{GuillotineSheet, Insertion, Place, places, score_less, best_place}
use Rattle.model.specs.Jylanki.{Measure, best_area_fit, best_short_side_fit, best_long_side_fit}
use Rattle.trust.specs.Sound.{Lies, turned, upright}
use Rattle.lists.proofs.Perm.{all_both}
use Rattle.trust.proofs.Placing.{Good, places_good, best_place_good}

-- ---- the first lowest score is lowest in the first number of the score

-- a test that goes by a measure, up to ties
module _ {A : Type 0} (m : A → ℕ) (better : A → A → Bool)
    (yes_less : (a b : A) → better a b ≡ true → m a ≤ m b) (no_less : (a b : A) → better a b ≡ false → m b ≤ m a) where
  keep_best_least : (best : A) (xs : List A) → (m (keep_best better best xs) ≤ m best) × All (λ y. m (keep_best better best xs) ≤ m y) xs
  unfolding keep_best
  keep_best_least best [] = (le_refl _, tt)
  keep_best_least best (x ∷ xs) = go (better x best) refl (λ y. keep_best_least y xs)
    where
      go : (b : Bool) → better x best ≡ b
          → ((y : A) → (m (keep_best better y xs) ≤ m y) × All (λ z. m (keep_best better y xs) ≤ m z) xs)
          → (m (keep_best better (if b then x else best) xs) ≤ m best)
          × ((m (keep_best better (if b then x else best) xs) ≤ m x) × All (λ y. m (keep_best better (if b then x else best) xs) ≤ m y) xs)
      go true e later = (le_trans (later x).0 (yes_less x best e), ((later x).0, (later x).1))
      go false e later = ((later best).0, (le_trans (later best).0 (no_less x best e), (later best).1))

  first_best_least : (xs : List A) (x : A) → first_best better xs ≡ some x → All (λ y. m x ≤ m y) xs
  unfolding first_best
  first_best_least [] x e = tt
  first_best_least (y ∷ ys) x e = subst (λ (z : A). All (λ w. m z ≤ m w) (y ∷ ys)) (some-injective _ _ e) (keep_best_least y ys)

first_less : (a b : ℕ) (as' bs : List ℕ) → is_less (lexicographic (a ∷ as') (b ∷ bs)) ≡ true → a ≤ b
unfolding lexicographic
first_less a b as' bs e = go (compare a b) refl e
  where
    go : (o : Ordering) → compare a b ≡ o → is_less (then_with o (lexicographic as' bs)) ≡ true → a ≤ b
    go Ordering.lt f k = leb→le a b (subst (λ (o : Ordering). T (is_le o)) (sym f) tt)
    go Ordering.eq f k = leb→le a b (subst (λ (o : Ordering). T (is_le o)) (sym f) tt)
    go Ordering.gt f k = absurd (false≢true k)

first_not_less : (a b : ℕ) (as' bs : List ℕ) → is_less (lexicographic (a ∷ as') (b ∷ bs)) ≡ false → b ≤ a
unfolding lexicographic
first_not_less a b as' bs e = go (compare a b) refl e
  where
    go : (o : Ordering) → compare a b ≡ o → is_less (then_with o (lexicographic as' bs)) ≡ false → b ≤ a
    go Ordering.lt f k = absurd (true≢false k)
    go Ordering.eq f k = le_of_eq (sym (eqb→eq a b (subst (λ (o : Ordering). T (compare_is_eq o)) (sym f) tt)))
    go Ordering.gt f k = le_of_lt (nleb→lt a b (subst (λ (o : Ordering). T (not (is_le o))) (sym f) tt))

-- ---- the first number of the score, and the paper's measure

unfoldable pub score_head : GuillotineRectChoice → Rect → Rect → ℕ
score_head GuillotineRectChoice.Area f p = area_waste f p
score_head GuillotineRectChoice.ShortSide f p = short_side f p
score_head GuillotineRectChoice.LongSide f p = long_side f p

unfoldable pub paper_measure : GuillotineRectChoice → Measure
paper_measure GuillotineRectChoice.Area = best_area_fit
paper_measure GuillotineRectChoice.ShortSide = best_short_side_fit
paper_measure GuillotineRectChoice.LongSide = best_long_side_fit

head_less : (c : GuillotineRectChoice) (f p g q : Rect)
    → is_less (lexicographic (free_rect_choice_score f p c) (free_rect_choice_score g q c)) ≡ true → score_head c f p ≤ score_head c g q
unfolding free_rect_choice_score score_head
head_less GuillotineRectChoice.Area f p g q e = first_less _ _ _ _ e
head_less GuillotineRectChoice.ShortSide f p g q e = first_less _ _ _ _ e
head_less GuillotineRectChoice.LongSide f p g q e = first_less _ _ _ _ e

head_not_less : (c : GuillotineRectChoice) (f p g q : Rect)
    → is_less (lexicographic (free_rect_choice_score f p c) (free_rect_choice_score g q c)) ≡ false → score_head c g q ≤ score_head c f p
unfolding free_rect_choice_score score_head
head_not_less GuillotineRectChoice.Area f p g q e = first_not_less _ _ _ _ e
head_not_less GuillotineRectChoice.ShortSide f p g q e = first_not_less _ _ _ _ e
head_not_less GuillotineRectChoice.LongSide f p g q e = first_not_less _ _ _ _ e

-- every way a cut lies covers the same area, and no more than the rectangle it lies in
pub lies_area : (cut : CutInstance) (f : FitResult) → Lies cut f → area f.rect ≡ cut_area cut
lies_area cut f (upright w l p r) = ap (λ (n : ℕ). n * f.rect.length) w ∙ ap (λ (n : ℕ). cut.width * n) l
lies_area cut f (turned t w l p r) = ap (λ (n : ℕ). n * f.rect.length) w ∙ ap (λ (n : ℕ). cut.length * n) l ∙ mul_comm cut.length cut.width

abbrev pub paper : Insertion → Place → ℕ
paper i q = paper_measure i.heuristic.rect_choice q.free_rect q.fit.rect.width q.fit.rect.length

heads_paper : (i : Insertion) (c : GuillotineRectChoice) (sheet : GuillotineSheet) (p q : Place) → Good sheet i p → Good sheet i q
    → score_head c p.free_rect p.fit.rect ≤ score_head c q.free_rect q.fit.rect
    → paper_measure c p.free_rect p.fit.rect.width p.fit.rect.length ≤ paper_measure c q.free_rect q.fit.rect.width q.fit.rect.length
unfolding score_head paper_measure area_waste short_side long_side best_area_fit best_short_side_fit best_long_side_fit
heads_paper i GuillotineRectChoice.Area sheet p q g h e =
    omega (
      arith,
      lies_area i.cut p.fit g.fits.lies,
      lies_area i.cut q.fit h.fits.lies,
      mul-le-mul g.fits.corner.width g.fits.corner.length,
      mul-le-mul h.fits.corner.width h.fits.corner.length,
    )
heads_paper i GuillotineRectChoice.ShortSide sheet p q g h e = e
heads_paper i GuillotineRectChoice.LongSide sheet p q g h e = e

-- the place taken measures least among all places, by the paper's measure of the heuristic's choice
pub best_place_least : (sheet : GuillotineSheet) (i : Insertion) (p : Place) → best_place sheet i ≡ some p → All (λ q. paper i p ≤ paper i q) (places sheet i)
unfolding best_place score_less
best_place_least sheet i p e =
    let c = i.heuristic.rect_choice in
    let m : Place → ℕ = λ q. score_head c q.free_rect q.fit.rect in
    all_both (Good sheet i) (λ q. m p ≤ m q) (λ q. paper i p ≤ paper i q) (λ q g h. heads_paper i c sheet p q (best_place_good sheet i p e) g h) (places sheet i)
    (places_good sheet i)
    (first_best_least m (score_less i.heuristic) (λ a b k. head_less c _ _ _ _ k) (λ a b k. head_not_less c _ _ _ _ k) (places sheet i) p e)
