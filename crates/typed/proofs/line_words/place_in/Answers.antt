-- `line_words::place_in` meets its contract.
use Rattle.std.proofs.Common.{◌∙◌, rules, tests, bytes_eq, Bor, List, ℕ}
use Rattle.std.proofs.lemmas.Iterator.{YieldsList-from_slice}
use Rattle.std.proofs.lemmas.Iterator.Search.{position_from_yields_List}
use Rattle.std.proofs.lemmas.Iterator.Adapters.{position_from-zero}
use Rattle.typed.proofs.line.Values.{code_position}
use Rattle.typed.proofs.line_words.place_in.Goals as goal

pub returns : goal.returns
returns c =
    let same = λ (known : Bor (List ℕ)). bytes_eq c.args.word.now known.now in
    position_from_yields_List same _ _ c.position.result c.position.ensures.ran (YieldsList-from_slice c.args.table.now cc) (λ x b q k. search (rules, tests))
    ∙ position_from-zero same c.args.table.now ∙ code_position (λ t. t.now) 0 c.args.table.now c.args.word.now
