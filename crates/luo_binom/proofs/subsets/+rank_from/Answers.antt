use Rattle.std.proofs.Common.{rules, arith}
use Rattle.luo_binom.proofs.SubsetLemmas.{choice_short, rest_with, rest_without, place_same, place_past, place_empty, empty_of_none, some_empty}
use Rattle.luo_binom.proofs.subsets.+rank_from.Goals as goal

pub rank_from-requires : goal.rank_from-requires
rank_from-requires t c =
    let k = rest_with c.args.labels.now c.in-Some-split_first.rest.now c.args.part.now c.in-Some.others.now c.in-Some-split_first.least.now c.in-Some.first.now c.in-Some-split_first.ensures.cases.0 c.in-Some.ensures.cases.0 c.if-first-least.true c.requires.labels c.requires.part in
    (search rules, (k.0, (omega (arith, c.requires.few, c.in-Some-split_first.ensures.cases.1), (omega (arith, c.requires.reached, c.in-Some-split_first.ensures.cases.1), k.1))))

pub choices-with-requires-clause-within : goal.choices-with-requires-clause-within
choices-with-requires-clause-within t c =
    omega (arith, choice_short c.args.labels.now c.args.part.now c.requires.part, c.in-Some-split_first.ensures.cases.1, c.in-Some.ensures.cases.1)

pub choices-all-requires-clause-within : goal.choices-all-requires-clause-within
choices-all-requires-clause-within t c = choice_short c.args.labels.now c.args.part.now c.requires.part

pub rank_from-requires-else-first-least : goal.rank_from-requires-else-first-least
rank_from-requires-else-first-least t c =
    let k = rest_without c.args.labels.now c.in-Some-split_first.rest.now c.args.part.now c.in-Some.others.now c.in-Some-split_first.least.now c.in-Some.first.now c.in-Some-split_first.ensures.cases.0 c.in-Some.ensures.cases.0 c.if-first-least.false c.requires.labels c.requires.part in
    (search rules, (k.0, (omega (arith, c.requires.few, c.in-Some-split_first.ensures.cases.1), (omega (arith, c.requires.reached, c.in-Some-split_first.ensures.cases.1), k.1))))

pub returns-then-first-least-clause-place : goal.returns-then-first-least-clause-place
returns-then-first-least-clause-place t c =
    place_same c.args.labels.now c.in-Some-split_first.rest.now c.args.part.now c.in-Some.others.now c.in-Some-split_first.least.now c.in-Some.first.now c.rank_from.result c.in-Some-split_first.ensures.cases.0 c.in-Some.ensures.cases.0 c.if-first-least.true c.requires.labels c.rank_from.ensures.place

pub returns-else-first-least-clause-place : goal.returns-else-first-least-clause-place
returns-else-first-least-clause-place t c =
    place_past c.args.labels.now c.in-Some-split_first.rest.now c.args.part.now c.in-Some.others.now c.in-Some-split_first.least.now c.in-Some.first.now c.choices-with.result c.rank_from-else-first-least.result c.in-Some-split_first.ensures.cases.0 c.in-Some.ensures.cases.0 c.requires.labels c.choices-with.ensures c.rank_from-else-first-least.ensures.place

pub returns-in-None-split_first-clause-place : goal.returns-in-None-split_first-clause-place
returns-in-None-split_first-clause-place t c = place_empty c.args.labels.now c.args.part.now (empty_of_none c.args.labels.now c.args.part.now c.in-None-split_first.ensures.cases c.requires.part)

pub returns-in-None-split_first-clause-below : goal.returns-in-None-split_first-clause-below
returns-in-None-split_first-clause-below t c = some_empty c.args.labels.now c.args.part.now (empty_of_none c.args.labels.now c.args.part.now c.in-None-split_first.ensures.cases c.requires.part)

pub returns-in-None-clause-place : goal.returns-in-None-clause-place
returns-in-None-clause-place t c = place_empty c.args.labels.now c.args.part.now c.in-None.ensures.cases
