-- `placing::reinsert_unused_first_fit` meets its contract.
use Prim.Native.Nat.{ℕ}
use mathlib.Core.Path.{◌≡◌, ◌∙◌}
use mathlib.Core.List.{List, []}
use Rattle.model.specs.declared.Rect.{Rect}
use Rattle.model.specs.Expand.{ProblemInstance}
use Rattle.candidate.specs.declared.Candidate.{Candidate as Words}
use Rattle.candidate.specs.Moves.{without_unused, reinserted}
use Rattle.candidate.specs.Stands.{unused_numbers}
use Rattle.candidate.proofs.Reinsertion.{reinsert_is, reinsert_stands}
use Rattle.candidate.specs.Bins.{Shown}
use Rattle.candidate.proofs.placing.reinsert_unused_first_fit.Goals as goal

emptied : (k : Words) (unused : List ℕ) → unused ≡ [] → record { boards = k.boards; sheets = k.sheets; insertions = k.insertions; unused = record { items = unused } } ≡ without_unused k
unfolding without_unused
emptied k unused e = λ i. record { boards = k.boards; sheets = k.sheets; insertions = k.insertions; unused = record { items = e i } }

shown : (inst : ProblemInstance) (free : List (List Rect)) (k : Words) → Shown inst free k → Shown inst free (without_unused k)
unfolding without_unused
shown inst free k s = record { sheets = s.sheets }

pub place_cuts-requires : goal.place_cuts-requires
place_cuts-requires c =
    let order : c.as_slice.result.now ≡ unused_numbers c.args.c.now = c.as_slice.ensures.value ∙ (λ i. (c.take-unused.ensures.value i).items) in
    let bare = emptied c.args.c.now c.take-unused.new.self.items c.take-unused.ensures.after in
    rw (order, bare) (reinsert_stands c.args.inst.now c.args.c.now c.requires.0, shown c.args.inst.now c.args.free.now c.args.c.now c.requires.1)

pub returns : goal.returns
unfolding reinserted
returns c =
    let order : c.as_slice.result.now ≡ unused_numbers c.args.c.now = c.as_slice.ensures.value ∙ (λ i. (c.take-unused.ensures.value i).items) in
    let bare = emptied c.args.c.now c.take-unused.new.self.items c.take-unused.ensures.after in
    let placed = rw (order, bare) at c.place_cuts.ensures in
    record { words = placed.words; is = placed.is ∙ reinsert_is c.args.inst.now c.args.h c.args.c.now; stands = placed.stands; shown = placed.shown }
