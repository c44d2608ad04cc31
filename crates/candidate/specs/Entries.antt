-- An insertion as a word: its board's and its cut's places in the problem, and a code of its heuristic.
use Rattle.std.specs.Prelude.{ℕ, zero, suc, ◌+◌, ◌*◌, ◌/◌, ◌%◌, List, eqb}
use Rattle.lists.specs.Base.{retain}
use Rattle.model.specs.declared.GuillotineRectChoice.{GuillotineRectChoice}
use Rattle.model.specs.declared.GuillotineSplitHeuristic.{GuillotineSplitHeuristic}
use Rattle.model.specs.declared.RotationPreference.{RotationPreference}
use Rattle.model.specs.declared.BaselineGuillotineHeuristic.{BaselineGuillotineHeuristic}

-- ---- a heuristic

abbrev pub choice_code : GuillotineRectChoice → ℕ
choice_code GuillotineRectChoice.Area = 0
choice_code GuillotineRectChoice.ShortSide = 1
choice_code GuillotineRectChoice.LongSide = 2

abbrev pub split_code : GuillotineSplitHeuristic → ℕ
split_code GuillotineSplitHeuristic.Horizontal = 0
split_code GuillotineSplitHeuristic.LongerAxis = 1
split_code GuillotineSplitHeuristic.MaximizeArea = 2

abbrev pub rotation_code : RotationPreference → ℕ
rotation_code RotationPreference.PreferUpright = 0
rotation_code RotationPreference.PreferRotated = 1

unfoldable pub heuristic_code : BaselineGuillotineHeuristic → ℕ
heuristic_code h = choice_code h.rect_choice * 6 + split_code h.split * 2 + rotation_code h.rotation

abbrev pub choice_of : ℕ → GuillotineRectChoice
choice_of zero = GuillotineRectChoice.Area
choice_of (suc zero) = GuillotineRectChoice.ShortSide
choice_of (suc (suc n)) = GuillotineRectChoice.LongSide

abbrev pub split_of : ℕ → GuillotineSplitHeuristic
split_of zero = GuillotineSplitHeuristic.Horizontal
split_of (suc zero) = GuillotineSplitHeuristic.LongerAxis
split_of (suc (suc n)) = GuillotineSplitHeuristic.MaximizeArea

abbrev pub rotation_of : ℕ → RotationPreference
rotation_of zero = RotationPreference.PreferUpright
rotation_of (suc n) = RotationPreference.PreferRotated

unfoldable pub coded_heuristic : ℕ → BaselineGuillotineHeuristic
coded_heuristic code = record { rect_choice = choice_of (code / 6); split = split_of (code / 2 % 3); rotation = rotation_of (code % 2) }

-- ---- an insertion

unfoldable pub insertion_word : ℕ → ℕ → BaselineGuillotineHeuristic → ℕ
insertion_word board cut h = (board * 64 + cut) * 32 + heuristic_code h

unfoldable pub board_of : ℕ → ℕ
board_of word = word / 2048

unfoldable pub cut_of : ℕ → ℕ
cut_of word = word / 32 % 64

unfoldable pub heuristic_of : ℕ → BaselineGuillotineHeuristic
heuristic_of word = coded_heuristic (word % 32)

-- the insertions on a board, in their order
unfoldable pub on_board : ℕ → List ℕ → List ℕ
on_board board words = retain (λ w. eqb (board_of w) board) words
