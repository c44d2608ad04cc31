use Rattle.candidate.specs.OnSheets.{less_fit}
use Rattle.candidate.proofs.evaluation.worst_bin_index.Given as goal

abbrev pub ghost-first_best : goal.ghost-first_best
ghost-first_best a = less_fit
