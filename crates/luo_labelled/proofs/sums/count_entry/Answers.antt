use Rattle.std.proofs.Common.{slice_index, length}
use Rattle.luo_labelled.proofs.CodeLemmas.{row_within, count_first_entry, count_none_entry}
use Rattle.luo_labelled.proofs.sums.count_entry.Goals as goal

pub joined-requires-clause-row : goal.joined-requires-clause-row
joined-requires-clause-row c =
    row_within c.args.steps.last c.args.steps.wide c.args.i c.args.n c.in-Some.row (length c.args.cells.now) c.requires.planned.inside c.requires.planned.size c.requires.cells c.in-Some.ensures.1

pub returns-in-Some : goal.returns-in-Some
returns-in-Some c =
    count_first_entry c.args.steps c.args.kind (slice_index c.args.comp.now) c.args.i c.args.n c.in-Some.row c.empty-empty.result c.joined.result c.marked_add.result c.args.cells.now c.requires.planned c.requires.start c.requires.row c.in-Some.ensures c.empty-empty.ensures c.joined.ensures c.marked_add.ensures

pub returns-in-None : goal.returns-in-None
returns-in-None c = count_none_entry c.args.steps c.args.kind (slice_index c.args.comp.now) c.args.i c.args.n c.empty-empty.result c.requires.planned c.requires.start c.in-None.ensures c.empty-empty.ensures
