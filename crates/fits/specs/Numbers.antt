-- The score of `free_rect_choice_score`, a tuple of five numbers in the source, as the list of its numbers.
use Rattle.std.specs.Prelude.{ℕ, List, [], ◌∷◌}
use Rattle.fits.specs.declared.choice.Score.{Score}

abbrev pub score_numbers : Score → List ℕ
score_numbers s = s.first ∷ s.second ∷ s.third ∷ s.y ∷ s.x ∷ []
