-- `line::keyword_of` meets its contract: it finds the word in the table.
use Rattle.std.proofs.Common.{refl, sym, ap, ◌∙◌, rules, tests, bytes_eq}
use Rattle.std.specs.Option.{option_map}
use Rattle.std.proofs.lemmas.Iterator.{YieldsList-from_slice}
use Rattle.std.proofs.lemmas.Iterator.Search.{find_from_yields_List}
use Rattle.typed.specs.Lines.{keyword_of}
use Rattle.typed.proofs.line.Values.{named_found}
use Rattle.typed.proofs.line.keyword_of.Goals as goal

pub returns-in_err-found : goal.returns-in_err-found
unfolding keyword_of
returns-in_err-found c =
    let found = find_from_yields_List (λ entry. bytes_eq c.args.word.now entry.0.now) _ _ c.find.result c.find.ensures.ran (YieldsList-from_slice c.iter.result.rest.now refl) (λ x b q k. search (rules, tests)) in
    rw c.from_residual.ensures (ap (option_map (λ e. e.now.1)) (sym c.in_err-found.was) ∙ named_found _ _ _ _ c.iter.ensures.rest found)

pub returns : goal.returns
unfolding keyword_of
returns c =
    let found = find_from_yields_List (λ entry. bytes_eq c.args.word.now entry.0.now) _ _ c.find.result c.find.ensures.ran (YieldsList-from_slice c.iter.result.rest.now refl) (λ x b q k. search (rules, tests)) in
    ap (option_map (λ e. e.now.1)) (sym c.in_ok-found.was) ∙ named_found _ _ _ _ c.iter.ensures.rest found
