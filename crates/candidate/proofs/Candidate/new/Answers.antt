-- `Candidate::new` meets its contract: board i is i, and both lists are empty.
use Rattle.std.proofs.Common.{◌≡◌, rules}
use Rattle.std.proofs.lemmas.List.FromFn.{fill_by_all}
use Rattle.lists.specs.Base.{range, count_from}
use Rattle.candidate.specs.Moves.{new_words}
use Rattle.candidate.proofs.Candidate.new.Goals as goal

pub returns : goal.returns
unfolding new_words count_from
returns c =
    let all : c.from_fn.result ≡ range 64 =
    fill_by_all (λ i. i) c.from_fn.result 64 0 c.from_fn.ensures.items.long (λ k h. let e = c.from_fn.ensures.items.at k 0 h in search rules) in
    λ j. record { boards = all j; sheets = 0; insertions = record { items = c.new.ensures j }; unused = record { items = c.new-2.ensures j } }
