use Rattle.std.proofs.Common.{slice_index, length}
use Rattle.luo_labelled.proofs.CodeLemmas.{row_within, total_first_entry, total_none_entry}
use Rattle.luo_labelled.proofs.sums.total_entry.Goals as goal

pub joined-first-requires-clause-row : goal.joined-first-requires-clause-row
joined-first-requires-clause-row c =
    row_within c.args.steps.last c.args.steps.wide c.args.i c.args.n c.in-Some.row (length c.args.counts.now) c.requires.planned.inside c.requires.planned.size c.requires.counts c.in-Some.ensures.1

pub joined-behind-requires-clause-row : goal.joined-behind-requires-clause-row
joined-behind-requires-clause-row c =
    row_within c.args.steps.last c.args.steps.wide c.args.i c.args.n c.in-Some.row (length c.args.totals.now) c.requires.planned.inside c.requires.planned.size c.requires.totals c.in-Some.ensures.1

pub returns-in-Some : goal.returns-in-Some
returns-in-Some c =
    total_first_entry c.args.steps c.args.kind (slice_index c.args.comp.now) (slice_index c.args.body.now) c.args.i c.args.n c.in-Some.row c.joined-first.result c.joined-behind.result c.marked_add.result c.args.counts.now c.args.totals.now
    c.requires.planned c.requires.start c.requires.body_start c.requires.count_row c.requires.total_row c.in-Some.ensures c.joined-first.ensures c.joined-behind.ensures c.marked_add.ensures

pub returns-in-None : goal.returns-in-None
returns-in-None c = total_none_entry c.args.steps c.args.kind (slice_index c.args.comp.now) (slice_index c.args.body.now) c.args.i c.args.n c.requires.planned c.requires.start c.requires.body_start c.in-None.ensures
