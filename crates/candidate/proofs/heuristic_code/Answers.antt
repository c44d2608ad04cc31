-- `candidate::heuristic_code` meets its contract: the number of a variant is its code.
use Rattle.std.proofs.Common.{◌≡◌, ◌+◌, ◌*◌, refl}
use denote.Enum.Declared.{tag_of}
use Rattle.model.specs.declared.GuillotineRectChoice.{GuillotineRectChoice}
use Rattle.model.specs.declared.GuillotineSplitHeuristic.{GuillotineSplitHeuristic}
use Rattle.model.specs.declared.RotationPreference.{RotationPreference}
use Rattle.model.specs.contracts.GuillotineRectChoice as choice
use Rattle.model.specs.contracts.GuillotineSplitHeuristic as split
use Rattle.model.specs.contracts.RotationPreference as rotation
use Rattle.candidate.specs.Entries.{choice_code, split_code, rotation_code, heuristic_code}
use Rattle.candidate.proofs.heuristic_code.Goals as goal

choice_number : (c : GuillotineRectChoice) → tag_of choice.the_type c ≡ choice_code c
choice_number GuillotineRectChoice.Area = refl
choice_number GuillotineRectChoice.ShortSide = refl
choice_number GuillotineRectChoice.LongSide = refl

split_number : (s : GuillotineSplitHeuristic) → tag_of split.the_type s ≡ split_code s
split_number GuillotineSplitHeuristic.Horizontal = refl
split_number GuillotineSplitHeuristic.LongerAxis = refl
split_number GuillotineSplitHeuristic.MaximizeArea = refl

rotation_number : (r : RotationPreference) → tag_of rotation.the_type r ≡ rotation_code r
rotation_number RotationPreference.PreferUpright = refl
rotation_number RotationPreference.PreferRotated = refl

pub returns : goal.returns
unfolding heuristic_code
returns c = λ i. choice_number c.args.h.rect_choice i * 6 + split_number c.args.h.split i * 2 + rotation_number c.args.h.rotation i
