-- `prefilter::all_fit` meets its contract.
use mathlib.Core.Path.{◌∙◌}
use Rattle.std.proofs.Common.{rules, tests}
use Rattle.std.proofs.lemmas.Iterator.{YieldsList-from_slice}
use Rattle.std.proofs.lemmas.Iterator.Search.{all_from_yields_List}
use Rattle.lists.specs.Base.{any}
use Rattle.model.specs.Fit.{cut_fits_stock}
use Rattle.optimizer.proofs.prefilter.Tests.{all_of}
use Rattle.optimizer.proofs.prefilter.all_fit.Goals as goal

pub returns : goal.returns
returns c =
    all_from_yields_List (λ d. any (cut_fits_stock d) c.args.stock.now) _ _ _ c.all.ensures.ran (YieldsList-from_slice c.args.cuts.now (cc)) (λ x b q k. search (rules, tests))
    ∙ all_of (λ d. any (cut_fits_stock d) c.args.stock.now) c.args.cuts.now
