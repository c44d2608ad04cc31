-- `line_words::split_before` meets its contract: it cuts where `position` says.
use Rattle.std.proofs.Common.{◌≡◌, ap, ◌∙◌, length, rules, tests}
use Rattle.std.proofs.lemmas.Iterator.{YieldsList-from_slice}
use Rattle.std.proofs.lemmas.Iterator.Search.{position_from_yields_List}
use Rattle.std.specs.List.{position}
use Rattle.std.specs.Option.{unwrap_or}
use Rattle.typed.proofs.line.Values.{cut_take, cut_drop}
use Rattle.typed.proofs.line_words.split_before.Goals as goal

pub returns : goal.returns
returns g c p h =
    let found = position_from_yields_List p _ _ c.position-place.result c.position-place.ensures.ran (YieldsList-from_slice c.args.text.now cc) (λ x b q k. search (rules, tests, h)) in
    let cut : c.unwrap_or.result ≡ unwrap_or (position p c.args.text.now) (length c.args.text.now) = c.unwrap_or.ensures ∙ ap (λ o. unwrap_or o (length c.args.text.now)) found in
    (c.split_at.ensures.front ∙ cut_take p _ _ cut, c.split_at.ensures.back ∙ cut_drop p _ _ cut)
