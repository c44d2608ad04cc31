-- The language's order of floats, with Equal where there is none, is the definitions'; and the order of two scores by each of the ways out of their comparison.
use Rattle.std.proofs.Common.{◌≡◌, ◌<◌, arith, Bool, true, false, cond, if◌then◌else◌, refl, Option, Some, None, unwrap_or}
use Prim.Native.Nat.{Ordering as Order}
use Rattle.std.specs.Prelude.{Float}
use Rattle.std.specs.Float.Ieee.{lt, eq}
use Rattle.std.specs.declared.cmp.Ordering.TheVariants.{Less, Equal, Greater}
use Rattle.std.specs.Ordering.{float_partial_cmp}
use Rattle.std.specs.Option.{option_partial_cmp}
use Rattle.std.proofs.lemmas.Float.{lt_irrefl, lt_trans, eq_flip, eq-not_lt, T_from_true}
use Rattle.lists.specs.Base.{is_less, is_greater}
use Rattle.lists.specs.Language.{option_of, order_of}
use Rattle.lists.proofs.Preorder.{compare_is}
use Rattle.model.specs.Fitness.{compare_float, compare_fitness}
use Rattle.model.specs.Candidate.{compare_score}
use Rattle.candidate.specs.declared.scores.CandidateScore.{CandidateScore}
use Rattle.candidate.specs.Scores.{score_of}

-- two floats of which one is less are not less the other way round
not_both : (x y : Float) → lt x y ≡ true → lt y x ≡ false
not_both x y e = go (lt y x) refl
  where
    go : (b : Bool) → lt y x ≡ b → b ≡ false
    go true d = absurd (lt_irrefl x (lt_trans x y x (T_from_true _ e) (T_from_true _ d)))
    go false d = refl

not_equal : (x y : Float) → eq x y ≡ true → lt y x ≡ false
not_equal x y e = go (lt y x) refl
  where
    go : (b : Bool) → lt y x ≡ b → b ≡ false
    go true d = absurd (eq-not_lt y x (eq_flip x y (T_from_true _ e)) (T_from_true _ d))
    go false d = refl

float_order : (x y : Float) → order_of (unwrap_or (float_partial_cmp x y) Equal) ≡ compare_float x y
unfolding compare_float
float_order x y = go (lt x y) (eq x y) (lt y x) (not_equal x y)
  where
    go : (l e g : Bool) → (e ≡ true → g ≡ false)
        → order_of (unwrap_or (cond l (Some Less) (cond e (Some Equal) (cond g (Some Greater) None))) Equal)
        ≡ (if l then Order.lt else if g then Order.gt else Order.eq)
    go true e g h = refl
    go false true g h = rw (h refl)
    go false false true h = refl
    go false false false h = refl

pub fitness_order : (x y : Option Float) → order_of (unwrap_or (option_partial_cmp float_partial_cmp x y) Equal) ≡ compare_fitness (option_of x) (option_of y)
unfolding compare_fitness
fitness_order None None = refl
fitness_order None (Some y) = refl
fitness_order (Some x) None = refl
fitness_order (Some x) (Some y) = float_order x y

pub greater_is : (x y : Float) → lt y x ≡ is_greater (compare_float x y)
unfolding compare_float
greater_is x y = go (lt x y) (lt y x) (not_both x y)
  where
    go : (l g : Bool) → (l ≡ true → g ≡ false) → g ≡ is_greater (if l then Order.lt else if g then Order.gt else Order.eq)
    go true g h = h refl
    go false true h = refl
    go false false h = refl

pub less_is : (x y : Float) → lt x y ≡ is_less (compare_float x y)
unfolding compare_float
less_is x y = go (lt x y) (lt y x)
  where
    go : (l g : Bool) → l ≡ is_less (if l then Order.lt else if g then Order.gt else Order.eq)
    go true g = refl
    go false true = refl
    go false false = refl

-- ---- two scores: more sheets are worse, of as many sheets more waste, and of as much waste the fitness decides

module _ (l r : CandidateScore) where
  pub more_sheets : r.used_stock_count < l.used_stock_count → Order.lt ≡ compare_score (score_of l) (score_of r)
  unfolding compare_score score_of
  more_sheets h = rw (compare_is Order.lt _ _ h)

  pub fewer_sheets : l.used_stock_count < r.used_stock_count → Order.gt ≡ compare_score (score_of l) (score_of r)
  unfolding compare_score score_of
  fewer_sheets h = rw (compare_is Order.gt _ _ h)

  module _ (same : l.used_stock_count ≡ r.used_stock_count) where
    pub more_waste : r.waste_area < l.waste_area → Order.lt ≡ compare_score (score_of l) (score_of r)
    unfolding compare_score score_of
    more_waste h = rw (compare_is Order.eq r.used_stock_count l.used_stock_count (omega arith), compare_is Order.lt _ _ h)

    pub less_waste : l.waste_area < r.waste_area → Order.gt ≡ compare_score (score_of l) (score_of r)
    unfolding compare_score score_of
    less_waste h = rw (compare_is Order.eq r.used_stock_count l.used_stock_count (omega arith), compare_is Order.gt _ _ h)

    module _ (waste : l.waste_area ≡ r.waste_area) where
      pub by_fitness : compare_fitness (option_of l.fitness) (option_of r.fitness) ≡ compare_score (score_of l) (score_of r)
      unfolding compare_score score_of
      by_fitness =
          rw (compare_is Order.eq r.used_stock_count l.used_stock_count (omega arith), compare_is Order.eq r.waste_area l.waste_area (omega arith)) refl

      -- as of no sheets
      pub no_fitness : l.fitness ≡ None → r.fitness ≡ None → Order.eq ≡ compare_score (score_of l) (score_of r)
      unfolding compare_fitness
      no_fitness x y = rw (← by_fitness, x, y) refl
