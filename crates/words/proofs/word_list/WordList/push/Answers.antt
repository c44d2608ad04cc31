-- `WordList::push`: behind the new word the places stay blank.
use Rattle.std.proofs.Common.{ℕ, ◌<◌, length, ap, arith}
use Rattle.arrayvec.specs.ArrayVec.{ArrayVec}
use Rattle.lists.proofs.Padded.{padded_push, count_back}
use Rattle.words.proofs.word_list.WordList.push.Goals as goal

pub invariant_of-self : goal.invariant_of-self
invariant_of-self c =
    let room : c.self.inside.count < 64 = omega (arith, c.requires, ap (λ (v : ArrayVec ℕ). length v.items) c.self.view_is, count_back 0 64 c.self.inside.words c.self.inside.count c.self.invariant) in
    padded_push 0 64 c.self.inside.words c.self.inside.count _ c.self.invariant room
