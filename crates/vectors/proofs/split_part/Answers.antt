-- The length is the first four bytes, and the part what there is of it.
use Rattle.std.proofs.Common.{length, take, drop, min, ap, ◌∙◌, arith}
use Rattle.vectors.proofs.Corpus.{part_there, behind_there, part_none, behind_none}
use Rattle.vectors.proofs.split_part.Goals as goal

pub returns-in-Some-clause-part : goal.returns-in-Some-clause-part
returns-in-Some-clause-part c =
    let cases = c.in-Some.ensures.cases in
    let rest = c.in-Some.rest.now in
    c.split_at.ensures.front ∙ ap (λ n. take n rest) (c.min.ensures ∙ ap (min (length rest)) c.from_le_bytes.ensures)
    ∙ part_there c.args.corpus.now (omega (arith, cases.2)) c.in-Some.size.now rest cases.0 cases.1

pub returns-in-Some-clause-behind : goal.returns-in-Some-clause-behind
returns-in-Some-clause-behind c =
    let cases = c.in-Some.ensures.cases in
    let rest = c.in-Some.rest.now in
    c.split_at.ensures.back ∙ ap (λ n. drop n rest) (c.min.ensures ∙ ap (min (length rest)) c.from_le_bytes.ensures)
    ∙ behind_there c.args.corpus.now (omega (arith, cases.2)) c.in-Some.size.now rest cases.0 cases.1

pub returns-in-None-clause-part : goal.returns-in-None-clause-part
returns-in-None-clause-part c = part_none c.args.corpus.now c.in-None.ensures.cases

pub returns-in-None-clause-behind : goal.returns-in-None-clause-behind
returns-in-None-clause-behind c = behind_none c.args.corpus.now c.in-None.ensures.cases
