-- `search::improve` meets its contract.
use mathlib.Core.Path.{ap, ◌∙◌}
use Rattle.model.specs.Candidate.{reinsert_unused_first_fit, compact_worst_bin}
use Rattle.candidate.specs.Moves.{reinserted}
use Rattle.candidate.specs.Compact.{compacted_words}
use Rattle.search.specs.Improved.{improved, improved_words}
use Rattle.search.proofs.Passes.{compacted_shown}
use Rattle.search.proofs.improve.Goals as goal

pub reinsert_unused_first_fit-requires-2 : goal.reinsert_unused_first_fit-requires-2
reinsert_unused_first_fit-requires-2 c = (
  c.compact_worst_bin_for_repair.ensures.stands,
  compacted_shown c.args.inst.now c.reinsert_unused_first_fit.new.free c.reinsert_unused_first_fit.new.c c.compact_worst_bin_for_repair.new.c c.compact_worst_bin_for_repair.ensures c.reinsert_unused_first_fit.ensures.shown,
)

pub returns : goal.returns
unfolding improved improved_words
returns c =
    let inst = c.args.inst.now in
    record {
      words = c.reinsert_unused_first_fit-2.ensures.words
          ∙ ap (reinserted inst c.args.h) (c.compact_worst_bin_for_repair.ensures.words ∙ ap (compacted_words inst) c.reinsert_unused_first_fit.ensures.words);
      is = c.reinsert_unused_first_fit-2.ensures.is
          ∙ ap (reinsert_unused_first_fit inst.kerf_width c.args.h) (c.compact_worst_bin_for_repair.ensures.is ∙ ap (compact_worst_bin inst.cuts) c.reinsert_unused_first_fit.ensures.is);
      stands = c.reinsert_unused_first_fit-2.ensures.stands;
    }
