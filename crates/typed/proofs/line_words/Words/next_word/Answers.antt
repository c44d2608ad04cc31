-- `line_words::Words::next_word` meets its contract: the space before the word, then the word.
use Rattle.std.proofs.Common.{rules, tests, ap, ◌∙◌}
use Rattle.std.specs.List.{before_first}
use Rattle.typed.specs.Words.{ends_space, ends_word, from_first, behind_space, first_word, after_word}
use Rattle.typed.proofs.line_words.Words.next_word.Goals as goal

pub returns-clause-word : goal.returns-clause-word
unfolding behind_space first_word
returns-clause-word c =
    let space = c.split_before.ensures ends_space (λ b r e. search (rules, tests)) in
    let word = c.split_before-2.ensures ends_word (λ b r e. search (rules, tests)) in
    word.0 ∙ ap (before_first ends_word) space.1

pub returns-clause-left : goal.returns-clause-left
unfolding behind_space after_word
returns-clause-left c =
    let space = c.split_before.ensures ends_space (λ b r e. search (rules, tests)) in
    let word = c.split_before-2.ensures ends_word (λ b r e. search (rules, tests)) in
    word.1 ∙ ap (from_first ends_word) space.1
