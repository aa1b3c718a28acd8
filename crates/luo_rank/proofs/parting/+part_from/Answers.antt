use Rattle.std.proofs.Common.{arith}
use Rattle.luo_rank.proofs.PartLemmas.{chosen_none, chosen_with, chosen_without, others_rise, choice_with, choice_without, choice_empty}
use Rattle.luo_rank.proofs.parting.+part_from.Goals as goal

pub part_from-requires : goal.part_from-requires
part_from-requires t c =
    let rises = others_rise c.args.labels.now c.in-Some.others.now c.in-Some.label.now c.in-Some.ensures.cases.0 c.requires.rises in
    let chosen = choice_with c.args.labels.now c.in-Some.others.now c.args.chosen.now c.in-Some-split_first.more.now c.in-Some.label.now c.in-Some-split_first.next.now c.in-Some.ensures.cases.0 c.in-Some-split_first.ensures.cases.0 c.if-next-label.true c.requires.rises c.requires.chosen in
    (omega (arith, c.decreases, c.in-Some.ensures.cases.1), (rises, chosen))

pub part_from-requires-else-next-label : goal.part_from-requires-else-next-label
part_from-requires-else-next-label t c =
    let rises = others_rise c.args.labels.now c.in-Some.others.now c.in-Some.label.now c.in-Some.ensures.cases.0 c.requires.rises in
    let chosen = choice_without c.args.labels.now c.in-Some.others.now c.args.chosen.now c.in-Some-split_first.more.now c.in-Some.label.now c.in-Some-split_first.next.now c.in-Some.ensures.cases.0 c.in-Some-split_first.ensures.cases.0 c.if-next-label.false c.requires.rises c.requires.chosen in
    (omega (arith, c.decreases, c.in-Some.ensures.cases.1), (rises, chosen))

pub part_from-requires-in-None : goal.part_from-requires-in-None
part_from-requires-in-None t c =
    let rises = others_rise c.args.labels.now c.in-Some.others.now c.in-Some.label.now c.in-Some.ensures.cases.0 c.requires.rises in
    let chosen = choice_empty c.args.labels.now c.in-Some.others.now c.args.chosen.now c.in-Some.label.now c.in-Some.ensures.cases.0 c.in-None.ensures.cases in
    (omega (arith, c.decreases, c.in-Some.ensures.cases.1), (rises, chosen))

pub returns-in_ok-part_from-in-Some-split_first : goal.returns-in_ok-part_from-in-Some-split_first
returns-in_ok-part_from-in-Some-split_first t c =
    chosen_with c.args.labels.now c.in-Some.others.now c.args.chosen.now c.in-Some-split_first.more.now c.args.first.now c.push.new.self c.part_from.new.first c.args.rest.now c.part_from.new.rest c.in-Some.label.now c.in-Some-split_first.next.now
    c.in-Some.ensures.cases.0 c.in-Some-split_first.ensures.cases.0 c.if-next-label.true c.in_ok-push-in-Some-split_first.ensures.ok c.in_ok-part_from-in-Some-split_first.ensures

pub returns-in_ok-part_from-in-Some-split_first-2 : goal.returns-in_ok-part_from-in-Some-split_first-2
returns-in_ok-part_from-in-Some-split_first-2 t c =
    chosen_without c.args.labels.now c.in-Some.others.now c.args.chosen.now c.args.first.now c.part_from-else-next-label.new.first c.args.rest.now c.push-else-next-label.new.self c.part_from-else-next-label.new.rest c.in-Some.label.now
    c.in-Some.ensures.cases.0 c.in_ok-push-in-Some-split_first-2.ensures.ok c.in_ok-part_from-in-Some-split_first-2.ensures

pub returns-in_ok-part_from-in-None : goal.returns-in_ok-part_from-in-None
returns-in_ok-part_from-in-None t c =
    chosen_without c.args.labels.now c.in-Some.others.now c.args.chosen.now c.args.first.now c.part_from-in-None.new.first c.args.rest.now c.push-in-None.new.self c.part_from-in-None.new.rest c.in-Some.label.now
    c.in-Some.ensures.cases.0 c.in_ok-push-in-None.ensures.ok c.in_ok-part_from-in-None.ensures

pub returns-in_default : goal.returns-in_default
returns-in_default t c = chosen_none c.args.labels.now c.args.chosen.now c.args.first.now c.args.rest.now c.in_default.ensures.cases c.requires.chosen
