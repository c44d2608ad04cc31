-- `prefilter::fits_any` meets its contract.
use mathlib.Core.Path.{◌∙◌}
use Rattle.std.proofs.Common.{rules, tests}
use Rattle.std.proofs.lemmas.Iterator.{YieldsList-from_slice}
use Rattle.std.proofs.lemmas.Iterator.Search.{any_from_yields_List}
use Rattle.model.specs.Fit.{cut_fits_stock}
use Rattle.optimizer.proofs.prefilter.Tests.{any_of}
use Rattle.optimizer.proofs.prefilter.fits_any.Goals as goal

pub returns : goal.returns
returns c =
    any_from_yields_List (cut_fits_stock c.args.cut) _ _ _ c.any.ensures.ran (YieldsList-from_slice c.args.stock.now (cc)) (λ x b q k. search (rules, tests))
    ∙ any_of (cut_fits_stock c.args.cut) c.args.stock.now
