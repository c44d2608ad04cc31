-- The declared score as that of `model`.
use Rattle.lists.specs.Language.{option_of}
use Rattle.model.specs.Candidate.{CandidateScore as Score}
use Rattle.candidate.specs.declared.scores.CandidateScore.{CandidateScore}

unfoldable pub score_of : CandidateScore → Score
score_of s = record { used_stock_count = s.used_stock_count; waste_area = s.waste_area; fitness = option_of s.fitness }
