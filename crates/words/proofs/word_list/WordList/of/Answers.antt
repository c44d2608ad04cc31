-- `WordList::of`: behind the words the array is as it was made.
use Rattle.std.proofs.Common.{ℕ, List, length, sym, subst}
use Rattle.lists.specs.Padded.{Padded}
use Rattle.lists.proofs.Padded.{padded_all}
use Rattle.words.proofs.word_list.WordList.of.Goals as goal

pub invariant_of-result : goal.invariant_of-result
invariant_of-result c =
    subst (λ (words : List ℕ). Padded 0 64 words (length c.args.words.now)) (sym c.put_words.ensures) (padded_all 0 64 c.args.words.now c.requires)
