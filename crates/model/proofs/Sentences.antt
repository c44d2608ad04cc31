-- Sentences of the source and of the rules that a definition says in one clause, each as a law of its own.
use Rattle.std.specs.Prelude.{if◌then◌else◌}
use Prim.Native.Nat.{ℕ, ◌+◌, ◌-◌, ◌*◌, ◌≤◌, ◌<◌, min, compare, Ordering}
use native.Mathlib.Nat.{le_of_eq}
use native.Mathlib.Omega.{arith}
use mathlib.Core.Path.{◌≡◌, refl, ap, ◌∙◌}
use mathlib.Core.Bool.{Bool, true, false, ◌&&◌}
use mathlib.Core.List.{List, [], ◌∷◌, map}
use mathlib.Core.Option.{none, some}
use lib.Dec.{T, eqb, eqb→eq}
use lib.ListN.{length, length-take}
use borrow.Author.Tests.{le-leb, lt-ltb, le-ltb}
use Rattle.lists.specs.Base.{is_less, lexicographic, retain, sort_by}
use Rattle.model.specs.declared.Rect.{Rect}
use Rattle.model.specs.declared.Direction.{Direction}
use Rattle.model.specs.declared.GuillotineRectChoice.{GuillotineRectChoice}
use Rattle.model.specs.declared.GuillotineSplitHeuristic.{GuillotineSplitHeuristic}
use Rattle.model.specs.Choice.{area_waste, short_side, long_side, free_rect_choice_score}
use Rattle.model.specs.Split.{split_direction}
use Rattle.model.specs.Merge.{below, beside, stacked, joined, merge_adjacent_rects}
use Rattle.model.specs.Project.{Record, Project}
use Rattle.model.specs.Refusal.{settings_checks, stock_rule, cut_rule, whole_checks}
use Rattle.model.specs.Candidate.{Candidate, is_valid}
use Rattle.model.specs.Expand.{ProblemInstance}
use Rattle.model.specs.Search.{best_first, survival_generation}
use Rattle.lists.proofs.Perm.{length_perm, sort_by_perm}
use Rattle.lists.proofs.Preorder.{compare_is}

-- ---- splits

-- LongerAxis cuts a square horizontally, and so where the length is the longer side; it cuts vertically where the width is
pub square_horizontal : (free placed : Rect) → free.width ≤ free.length → split_direction free placed GuillotineSplitHeuristic.LongerAxis ≡ Direction.Horizontal
unfolding split_direction
square_horizontal free placed h = rw (le-ltb free.length free.width h)

pub wide_vertical : (free placed : Rect) → free.length < free.width → split_direction free placed GuillotineSplitHeuristic.LongerAxis ≡ Direction.Vertical
unfolding split_direction
wide_vertical free placed h = rw (lt-ltb free.length free.width h)

-- a tie of MaximizeArea is horizontal
pub area_tie_horizontal : (free placed : Rect) → placed.width * (free.length - placed.length) ≡ (free.width - placed.width) * placed.length
    → split_direction free placed GuillotineSplitHeuristic.MaximizeArea ≡ Direction.Horizontal
unfolding split_direction
area_tie_horizontal free placed e = rw (le-leb (placed.width * (free.length - placed.length)) ((free.width - placed.width) * placed.length) (le_of_eq e))

-- ---- choices: a fit p in f scores lower than a fit q in g

module _ (f p g q : Rect) where
  abbrev Lower : GuillotineRectChoice → Type 0
  Lower c = is_less (lexicographic (free_rect_choice_score f p c) (free_rect_choice_score g q c)) ≡ true

  same : {a b : ℕ} → a ≡ b → compare a b ≡ Ordering.eq
  same {a} {b} e = compare_is Ordering.eq a b e

  less : {a b : ℕ} → a < b → compare a b ≡ Ordering.lt
  less {a} {b} h = compare_is Ordering.lt a b h

  -- a tie of Area goes by the shorter leftover side, a tie of ShortSide by the longer, a tie of LongSide by the shorter
  pub area_tie : area_waste f p ≡ area_waste g q → short_side f p < short_side g q → Lower GuillotineRectChoice.Area
  unfolding free_rect_choice_score lexicographic
  area_tie e h = rw (same e, less h)

  pub short_side_tie : short_side f p ≡ short_side g q → long_side f p < long_side g q → Lower GuillotineRectChoice.ShortSide
  unfolding free_rect_choice_score lexicographic
  short_side_tie e h = rw (same e, less h)

  pub long_side_tie : long_side f p ≡ long_side g q → short_side f p < short_side g q → Lower GuillotineRectChoice.LongSide
  unfolding free_rect_choice_score lexicographic
  long_side_tie e h = rw (same e, less h)

  -- and where both sides tie, by the area for ShortSide and LongSide, by the longer side for Area
  module _ (s : short_side f p ≡ short_side g q) where
    pub area_second_tie : area_waste f p ≡ area_waste g q → long_side f p < long_side g q → Lower GuillotineRectChoice.Area
    unfolding free_rect_choice_score lexicographic
    area_second_tie e h = rw (same e, same s, less h)

    module _ (l : long_side f p ≡ long_side g q) where
      pub short_side_second_tie : area_waste f p < area_waste g q → Lower GuillotineRectChoice.ShortSide
      unfolding free_rect_choice_score lexicographic
      short_side_second_tie h = rw (same s, same l, less h)

      pub long_side_second_tie : area_waste f p < area_waste g q → Lower GuillotineRectChoice.LongSide
      unfolding free_rect_choice_score lexicographic
      long_side_second_tie h = rw (same l, same s, less h)

      -- a last tie goes to the lesser y, and then to the lesser x
      module _ (w : area_waste f p ≡ area_waste g q) where
        pub lesser_y : (c : GuillotineRectChoice) → f.y < g.y → Lower c
        unfolding free_rect_choice_score lexicographic
        lesser_y GuillotineRectChoice.Area h = rw (same s, same l, same w, less h)
        lesser_y GuillotineRectChoice.ShortSide h = rw (same s, same l, same w, less h)
        lesser_y GuillotineRectChoice.LongSide h = rw (same s, same l, same w, less h)

        pub lesser_x : (c : GuillotineRectChoice) → f.y ≡ g.y → f.x < g.x → Lower c
        unfolding free_rect_choice_score lexicographic
        lesser_x GuillotineRectChoice.Area e h = rw (same s, same l, same w, same e, less h)
        lesser_x GuillotineRectChoice.ShortSide e h = rw (same s, same l, same w, same e, less h)
        lesser_x GuillotineRectChoice.LongSide e h = rw (same s, same l, same w, same e, less h)

-- ---- merges

exchanged : (b₁ b₂ b₃ b₄ : Bool) (m₁ m₂ m₃ m₄ : Rect) → (T b₁ → T b₂ → ⊥) → (T b₃ → T b₄ → ⊥)
    → (if b₁ then some m₁ else if b₂ then some m₂ else if b₃ then some m₃ else if b₄ then some m₄ else none)
    ≡ (if b₂ then some m₂ else if b₁ then some m₁ else if b₄ then some m₄ else if b₃ then some m₃ else none)
exchanged true true b₃ b₄ m₁ m₂ m₃ m₄ f g = absurd (f tt tt)
exchanged true false b₃ b₄ m₁ m₂ m₃ m₄ f g = refl
exchanged false true b₃ b₄ m₁ m₂ m₃ m₄ f g = refl
exchanged false false true true m₁ m₂ m₃ m₄ f g = absurd (g tt tt)
exchanged false false true false m₁ m₂ m₃ m₄ f g = refl
exchanged false false false true m₁ m₂ m₃ m₄ f g = refl
exchanged false false false false m₁ m₂ m₃ m₄ f g = refl

last_equal : (p : Bool) (m n : ℕ) → T (p && eqb m n) → m ≡ n
last_equal true m n h = eqb→eq m n h
last_equal false m n h = absurd h

-- two rectangles merge whichever of them comes first
pub merge_either : (kerf : ℕ) (a b : Rect) → 0 < a.width → 0 < a.length → merge_adjacent_rects kerf a b ≡ merge_adjacent_rects kerf b a
unfolding merge_adjacent_rects
merge_either kerf a b w l =
    exchanged (below kerf a b) (below kerf b a) (beside kerf a b) (beside kerf b a)
    (stacked kerf a b) (stacked kerf b a) (joined kerf a b) (joined kerf b a)
    (λ h k. omega (arith, l, last_equal (eqb a.x b.x && eqb a.width b.width) (a.y + a.length + kerf) b.y h, last_equal (eqb b.x a.x && eqb b.width a.width) (b.y + b.length + kerf) a.y k))
    (λ h k. omega (arith, w, last_equal (eqb a.y b.y && eqb a.length b.length) (a.x + a.width + kerf) b.x h, last_equal (eqb b.y a.y && eqb b.length a.length) (b.x + b.width + kerf) a.x k))

-- ---- the order of the checks

pub settings_order : (p : Project) → map (λ c. c.0) (settings_checks p) ≡ 3 ∷ 4 ∷ []
unfolding settings_checks
settings_order p = refl

pub stock_order : (seen : List ℕ) (count : ℕ) (p : Record) → map (λ c. c.0) (stock_rule seen count p) ≡ 5 ∷ 6 ∷ 7 ∷ 8 ∷ 9 ∷ 10 ∷ []
unfolding stock_rule
stock_order seen count p = refl

pub cut_order : (seen : List ℕ) (count : ℕ) (p : Record) → map (λ c. c.0) (cut_rule seen count p) ≡ 5 ∷ 6 ∷ 7 ∷ 11 ∷ 9 ∷ 12 ∷ []
unfolding cut_rule
cut_order seen count p = refl

pub whole_order : (p : Project) → map (λ c. c.0) (whole_checks p) ≡ 13 ∷ 14 ∷ []
unfolding whole_checks
whole_order p = refl

-- ---- survival

-- no valid candidate is left out while there are fewer than the survivors
pub survivors_many : (inst : ProblemInstance) (survivors : ℕ) (population : List Candidate)
    → length (survival_generation inst survivors population) ≡ min survivors (length (retain (is_valid inst.cuts) population))
unfolding survival_generation
survivors_many inst survivors population =
    let valid : List Candidate = retain (is_valid inst.cuts) population in
    length-take survivors (sort_by (best_first inst) valid) ∙ ap (min survivors) (length_perm (sort_by_perm (best_first inst) valid))
