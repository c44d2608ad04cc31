-- The search for the best place, step by step.
use Rattle.std.proofs.Common.{◌≡◌, ℕ, zero, suc, ◌-◌, ◌+◌, ◌<◌, ◌≤◌, Bool, true, false, not, List, [], ◌∷◌, ◌++◌, map, length, length-take, take_all, get_or, take, refl, sym, ap, ◌∙◌, Option, Some, None, IfSome, unwrap_or, option_to_list, if◌then◌else◌, arith, add-one, add-zero, zero-add, append-nil, append_assoc}
use Rattle.std.proofs.Math.Seq.{take-suc}
use Rattle.std.proofs.lemmas.List.{map-append}
use Rattle.std.proofs.lemmas.Grind.{flat_map-append}
use Rattle.std.proofs.Math.Option as Defined
use Rattle.std.specs.Ordering.{partial_ge}
use Rattle.lists.specs.Base.{is_empty, is_less, lexicographic, enumerate_from, concat_map, keep_best, first_best}
use Rattle.model.specs.declared.PatternDirection.{PatternDirection}
use Rattle.model.specs.declared.RotationPreference.{RotationPreference}
use Rattle.model.specs.declared.BaselineGuillotineHeuristic.{BaselineGuillotineHeuristic}
use Rattle.model.specs.declared.Rect.{Rect}
use Rattle.model.specs.declared.CutInstance.{CutInstance}
use Rattle.model.specs.declared.FitResult.{FitResult}
use Rattle.model.specs.Choice.{free_rect_choice_score}
use Rattle.model.specs.Fit.{fit_cut_in_rects}
use Rattle.model.specs.Sheet.{Place, places, score_less, best_place}
use Rattle.fits.specs.declared.patterns.Ways.{Ways}
use Rattle.fits.specs.Orientation.{ways_to_lie}
use Rattle.fits.specs.FitList.{fits_of}
use Rattle.fits.specs.ByWays.{fits_by_ways}
use Rattle.fits.proofs.Orientations.{any_way, fits_by_ways_all}
use Rattle.fits.specs.declared.choice.Score.{Score}
use Rattle.fits.specs.contracts.choice.ScorePartialOrd.TheImpl.{partial_cmp-value}
use Rattle.fits.specs.Numbers.{score_numbers}
use Rattle.fits.proofs.choice.Order.{not_lower}
use Rattle.sheet.specs.declared.best_place.ScoredPlace.{ScoredPlace}
use Rattle.sheet.specs.Places.{LiesIn, IsNextFit, place_at, places_by_ways, best_over, place_of, Scored, Over, FindsBest}
use Rattle.model.specs.Types.{no_rect}

-- ---- the best of what is there and of more

module _ {A : Type 0} (better : A → A → Bool) where
  keep_append : (x : A) (xs ys : List A) → keep_best better x (xs ++ ys) ≡ keep_best better (keep_best better x xs) ys
  unfolding keep_best
  keep_append x [] ys = refl
  keep_append x (y ∷ xs) ys = keep_append (if better y x then y else x) xs ys

  over_append : (o : Defined.Option A) (xs ys : List A) → best_over better o (xs ++ ys) ≡ best_over better (best_over better o xs) ys
  unfolding best_over first_best
  over_append Defined.none [] ys = refl
  over_append Defined.none (x ∷ xs) ys = ap Defined.some (keep_append x xs ys)
  over_append (Defined.some x) xs ys = ap Defined.some (keep_append x xs ys)

  over_nil : (o : Defined.Option A) → best_over better o [] ≡ o
  unfolding best_over first_best keep_best
  over_nil Defined.none = refl
  over_nil (Defined.some x) = refl

is_true : (x : Bool) → not x ≡ false → x ≡ true
is_true true e = refl
is_true false e = sym e

is_false : (x : Bool) → not x ≡ true → x ≡ false
is_false true e = sym e
is_false false e = refl

no_fit : (l : List FitResult) → not (is_empty l) ≡ false → l ≡ []
no_fit [] e = refl
no_fit (f ∷ fs) e = cc

module _ (h : BaselineGuillotineHeuristic) where
  pub over_none : (b : Option ScoredPlace) → Scored h b → Over h b [] b
  over_none b s = record { place = sym (over_nil (score_less h) (place_of b)); scored = s }

  pub over_then : (a b c : Option ScoredPlace) (xs ys : List Place) → Over h a xs b → Over h b ys c → Over h a (xs ++ ys) c
  over_then a b c xs ys p q =
      record {
        place = q.place ∙ ap (λ (o : Defined.Option Place). best_over (score_less h) o ys) p.place ∙ sym (over_append (score_less h) (place_of a) xs ys);
        scored = q.scored;
      }

  module _ (i : ℕ) (r : Rect) (f : FitResult) (s : Score) (e : score_numbers s ≡ free_rect_choice_score r f.rect h.rect_choice) where
    abbrev pub taken : Option ScoredPlace
    taken = Some (record { index = i; free_rect = r; fit = f; score = s })

    -- the first fit is taken
    pub over_first : Over h None (place_at i r f ∷ []) taken
    unfolding best_over first_best keep_best
    over_first = record { place = refl; scored = e }

    -- a further one, if its score is lower
    module _ (p : ScoredPlace) (k : Scored h (Some p)) where
      less_is : (b : Bool) → is_less (lexicographic (score_numbers s) (score_numbers p.score)) ≡ b → score_less h (place_at i r f) (place_at p.index p.free_rect p.fit) ≡ b
      unfolding score_less
      less_is b l = rw (← e, ← k) l

      pub over_lower : partial_ge partial_cmp-value.it s p.score ≡ false → Over h (Some p) (place_at i r f ∷ []) taken
      unfolding best_over keep_best
      over_lower g = record { place = rw (less_is true (is_true _ (sym (not_lower s p.score) ∙ g))); scored = e }

      pub over_higher : partial_ge partial_cmp-value.it s p.score ≡ true → Over h (Some p) (place_at i r f ∷ []) (Some p)
      unfolding best_over keep_best
      over_higher g = record { place = rw (less_is false (is_false _ (sym (not_lower s p.score) ∙ g))); scored = k }

-- ---- the fits of one rectangle

module _ (f : FitResult → Place) where
  -- those up to the next, and that
  pub fits_step : (fits : List (Option FitResult)) (k : ℕ) → k < length fits
      → map f (fits_of (take (k + 1) fits)) ≡ map f (fits_of (take k fits)) ++ map f (option_to_list (get_or fits k None))
  fits_step fits k h = simp (add-one, take-suc fits k None h, flat_map-append, map-append, append-nil)

-- ---- the places of more and more rectangles

module _ (ways : Ways) (cut : CutInstance) (rotation : RotationPreference) where
  places_append : (i : ℕ) (xs ys : List Rect)
      → places_by_ways ways cut rotation i (xs ++ ys) ≡ places_by_ways ways cut rotation i xs ++ places_by_ways ways cut rotation (i + length xs) ys
  unfolding places_by_ways
  places_append i [] ys = simp add-zero
  places_append i (x ∷ xs) ys =
      let on : suc i + length xs ≡ i + length (x ∷ xs) = omega arith in rw (places_append (suc i) xs ys, on, append_assoc)

  module _ (l : List Rect) (k : ℕ) (h : k < length l) where
    -- the rectangle at k and its places
    pub places_step : places_by_ways ways cut rotation 0 (take (k + 1) l)
        ≡ places_by_ways ways cut rotation 0 (take k l) ++ map (place_at k (get_or l k no_rect)) (fits_by_ways ways cut (get_or l k no_rect) rotation)
    unfolding places_by_ways
    places_step =
        let r = get_or l k no_rect in
        let first : length (take k l) ≡ k = omega (arith, length-take k l) in
        rw (add-one, take-suc l k no_rect h, places_append 0 (take k l) (r ∷ []), first) (simp (zero-add, append-nil))

    -- no place there
    pub places_miss : LiesIn ways cut.width cut.length l k false → places_by_ways ways cut rotation 0 (take (k + 1) l) ≡ places_by_ways ways cut rotation 0 (take k l)
    places_miss e = rw (places_step, no_fit _ (any_way ways cut (get_or l k no_rect) rotation ∙ e)) (append-nil _)

-- ---- the definition's places

module _ (cut : CutInstance) (pattern : PatternDirection) (rotation : RotationPreference) where
  places_all : (i : ℕ) (l : List Rect)
      → places_by_ways (ways_to_lie cut pattern) cut rotation i l
      ≡ concat_map (λ ((k, r) : ℕ × Rect). map (λ f. record { index = k; free_rect = r; fit = f }) (fit_cut_in_rects cut pattern r rotation)) (enumerate_from i l)
  unfolding places_by_ways concat_map enumerate_from
  places_all i [] = refl
  places_all i (r ∷ l) = rw (fits_by_ways_all cut pattern r rotation, places_all (suc i) l)

module _ (l : List Rect) (ways : Ways) (cut : CutInstance) (h : BaselineGuillotineHeuristic) where
  -- the places in the rectangles before k
  abbrev pub seen : ℕ → List Place
  seen k = places_by_ways ways cut h.rotation 0 (take k l)

  -- one more rectangle in which the cut fits, and one in which it does not
  pub seen_hit : (b r : Option ScoredPlace) (k : ℕ) → k < length l → Over h None (seen k) b
      → Over h b (map (place_at k (get_or l k no_rect)) (fits_by_ways ways cut (get_or l k no_rect) h.rotation)) r → Over h None (seen (k + 1)) r
  seen_hit b r k i before here = rw (places_step ways cut h.rotation l k i) (over_then h None b r _ _ before here)

  -- on to the next rectangle in which the cut fits, or past the last
  seen_skip : (n i k : ℕ) → i + n ≡ k → k ≤ length l → ((j : ℕ) → i ≤ j → j < k → LiesIn ways cut.width cut.length l j false) → seen i ≡ seen k
  seen_skip zero i k e m none = let same : i ≡ k = omega arith in ap seen same
  seen_skip (suc n) i k e m none =
      let on : i + 1 + n ≡ k = omega arith in
      sym (places_miss ways cut h.rotation l i (omega arith) (none i (omega arith) (omega arith)))
      ∙ seen_skip n (i + 1) k on m (λ j p q. none j (omega arith) q)

  pub seen_next : (b : Option ScoredPlace) (i : ℕ) (o : Option ℕ) → i ≤ length l → IsNextFit l ways cut.width cut.length i o
      → Over h None (seen i) b → Over h None (seen (unwrap_or o (length l))) b
  seen_next b i None m n before = rw (← seen_skip (length l - i) i (length l) (omega arith) (omega arith) n.none_before) before
  seen_next b i (Some k) m n before = rw (← seen_skip (k - i) i k (omega arith) (omega arith) n.none_before) before

  pub next_on : (i : ℕ) (o : Option ℕ) → i ≤ length l → IsNextFit l ways cut.width cut.length i o → i ≤ unwrap_or o (length l)
  next_on i None m n = m
  next_on i (Some k) m n = n.fits.0

  pub next_inside : (i : ℕ) (o : Option ℕ) → IsNextFit l ways cut.width cut.length i o → IfSome o (λ k. k < length l)
  next_inside i None n = tt
  next_inside i (Some k) n = n.fits.1

  -- all of them: the definition's best place
  pub seen_all : (pattern : PatternDirection) (r : Option ScoredPlace) → ways ≡ ways_to_lie cut pattern → Over h None (seen (length l)) r → FindsBest l cut pattern h r
  unfolding best_over best_place places
  seen_all pattern r e o =
      record {
        place = rw (take_all (length l) l (omega arith), e, places_all cut pattern h.rotation 0 l) at o.place;
        scored = o.scored;
      }
