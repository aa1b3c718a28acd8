use Rattle.std.proofs.Common.{arith, ◌+◌}
use Rattle.luo_syntax.proofs.Texts.{deep_within, text_stops_first, text_deep, text_deep_read}
use Rattle.std.proofs.lemmas.List.{length-take}
use Rattle.luo_syntax.proofs.parsing.parse.Goals as goal

pub overflow_add-deep : goal.overflow_add-deep
overflow_add-deep c = omega (arith, deep_within c.args.tokens.now c.in-Some.deep c.in-Some.ensures)

pub slice_bounds-whole-end : goal.slice_bounds-whole-end
slice_bounds-whole-end c = omega (arith, length-take (c.in-Some.deep + 1) c.args.tokens.now, deep_within c.args.tokens.now c.in-Some.deep c.in-Some.ensures)

pub returns-in-Err-Grammar-clause-err : goal.returns-in-Err-Grammar-clause-err
returns-in-Err-Grammar-clause-err c =
    let e = rw c.in-Err-Grammar.field-0-is at c.in-Err-Grammar.ensures.err in
    text_stops_first c.args.text.now c.args.tokens.now c.in-Some.deep c.in-Err-Grammar.token c.requires c.in-Some.ensures e c.if-token-deep.true

pub returns-in-Err-Grammar-2-clause-err : goal.returns-in-Err-Grammar-2-clause-err
returns-in-Err-Grammar-2-clause-err c =
    let e = rw c.in-Err-Grammar.field-0-is at c.in-Err-Grammar.ensures.err in
    text_deep c.args.text.now c.args.tokens.now c.in-Some.deep c.in-Err-Grammar.token c.in-Some.ensures e c.if-token-deep.false

pub returns-in-Ok-clause-err : goal.returns-in-Ok-clause-err
returns-in-Ok-clause-err c = text_deep_read c.args.text.now c.args.tokens.now c.in-Some.deep c.in-Ok.field-0 c.in-Some.ensures c.in-Ok.ensures.ok
