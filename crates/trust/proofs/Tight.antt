-- The bounds are met: plans as long as they may be, sheets with as much waste and as many nodes, a fitness of 1. And where a NaN stands, floats have no order.
use Prim.Native.Nat.{ℕ}
use mathlib.Core.Path.{◌≡◌, refl, ap}
use mathlib.Core.Bool.{false, true≢false}
use mathlib.Core.List.{List, [], ◌∷◌, map}
use lib.ListN.{length, get_or}
use lib.IntN.{pos}
use lib.Ieee.{Float, nan, fin, lt}
use Rattle.lists.specs.Base.{is_less}
use Rattle.model.specs.Fitness.{one, compare_float}
use Rattle.model.specs.Answer.{Answer, plan, refused, answer}
use Rattle.model.specs.Evaluate.{evaluate}
use Rattle.model.specs.FileOf.{file}
use Rattle.lists.proofs.Preorder.{Preorder}
use Rattle.trust.specs.Limits.{plan_limit}

-- ---- plans

words_of : Answer → List ℕ
words_of (plan words) = words
words_of (refused n) = []

-- two panels on one board, and on two
one_board : List ℕ
one_board = file 3 0 0 ((1, 100, 100, 1, 0, 1) ∷ []) ((7, 40, 40, 1, 0, 0) ∷ (8, 20, 20, 1, 0, 0) ∷ [])

two_boards : List ℕ
two_boards = file 3 0 0 ((1, 100, 100, 2, 0, 1) ∷ []) ((7, 60, 60, 2, 0, 0) ∷ [])

-- no panel; and a panel as large as its board
no_panel : List ℕ
no_panel = file 3 0 0 [] []

full_board : List ℕ
full_board = file 3 0 0 ((1, 100, 100, 1, 0, 1) ∷ []) ((7, 100, 100, 1, 0, 0) ∷ [])

-- so neither 4 nor 45 nor 24 can be less
plans_as_long : map (λ bytes. length (words_of (answer bytes))) (no_panel ∷ one_board ∷ two_boards ∷ []) ≡ plan_limit 0 0 ∷ plan_limit 2 1 ∷ plan_limit 2 2 ∷ []
unfolding words_of no_panel one_board two_boards evaluate file
plans_as_long = refl

-- pieces, waste and nodes of the sheet with two pieces: p, p + 1, 4 p + 1
counts_as_large : map (λ k. get_or (words_of (answer one_board)) k 0) (13 ∷ 14 ∷ 15 ∷ []) ≡ 2 ∷ 3 ∷ 9 ∷ []
unfolding words_of one_board evaluate file
counts_as_large = refl

-- 1.0
fitness_as_high : map (λ k. get_or (words_of (answer full_board)) k 0) (1 ∷ 2 ∷ []) ≡ 0 ∷ 0x3FF0_0000 ∷ []
unfolding words_of full_board evaluate file
fitness_as_high = refl

-- ---- a NaN compares equal to 1 and to 2

two : Float
two = fin false 1 (pos 1)

nan_no_order : Preorder {A = Float} (λ x. Unit {0}) compare_float → ⊥
unfolding compare_float lt two
nan_no_order p = true≢false (ap is_less (p.chained one nan two tt tt tt))
