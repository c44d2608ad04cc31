use Rattle.candidate.specs.OnSheets.{fitter}
use Rattle.candidate.proofs.evaluation.best_donor_bin_index.Given as goal

abbrev pub ghost-first_best : goal.ghost-first_best
ghost-first_best a = fitter
