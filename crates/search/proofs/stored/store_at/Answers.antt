-- `stored::store_at` meets its contract: two counts and three rows of words, one behind the other.
use mathlib.Core.Path.{◌≡◌, sym, ap, ◌∙◌}
use mathlib.Core.List.{List, ◌∷◌, ◌++◌}
use Prim.Native.Nat.{ℕ, ◌*◌}
use native.Mathlib.Omega.{arith}
use lib.ListN.{length}
use Rattle.lists.specs.Parts.{patch}
use Rattle.candidate.specs.declared.Candidate.{Candidate as Words}
use Rattle.search.specs.Slots.{slot_words, packed, store_in}
use Rattle.search.proofs.stored.Storing.{store_words}
use borrow.Author.Rules.{rules}
use Rattle.search.proofs.stored.store_at.Goals as goal

pub returns : goal.returns
unfolding store_in packed
returns c =
    let k : Words = c.args.c.now in
    let at : ℕ = slot_words * c.args.slot in
    let x : List ℕ = c.as_slice.result.now in
    let y : List ℕ = c.as_slice-2.result.now in
    let boards : length k.boards ≡ 64 = search rules in
    let placed : length x ≡ c.len-placed.result = ap length c.as_slice.ensures.value ∙ sym c.len-placed.ensures.value in
    let unused : length y ≡ length k.unused.items = ap length c.as_slice-2.ensures.value in
    store_words c.args.ws.now c.put_words.new.words c.put_words-2.new.words c.put_words-3.new.words at k.sheets c.len-placed.result k.boards x y
    boards placed (omega (arith, c.requires.0, c.requires.1.cuts, c.len-placed.ensures.value)) c.put_words.ensures c.put_words-2.ensures c.put_words-3.ensures
    ∙ (λ i. patch c.args.ws.now at (k.sheets ∷ c.len-placed.ensures.value i ∷ (k.boards ++ (c.as_slice.ensures.value i ++ c.as_slice-2.ensures.value i))))
