use Rattle.std.proofs.Common.{slice_index}
use Rattle.luo_unlabelled.proofs.CellLemmas.{total_none, total_whole}
use Rattle.luo_unlabelled.proofs.steps.total_entry.Goals.{else-i-eq0-via-then-i-eq0+else-steps, else-i-eq0-via-else-i-eq0}
use Rattle.luo_unlabelled.proofs.steps.total_entry.Goals as goal

pub returns-then-steps : goal.returns-then-steps
returns-then-steps c = total_none c.args.steps (slice_index c.args.comp.now) (slice_index c.args.body.now) c.args.i c.args.n c.if-i-eq0.true c.if-steps.true c.requires.start c.requires.free

pub returns-else-i-eq0 : goal.returns-else-i-eq0
returns-else-i-eq0 c =
    total_whole c.args.steps c.args.comp.now c.args.body.now c.args.counts.now c.args.cells.now c.args.i c.args.n c.source-row.result c.convolved.result c.convolved-else-i-eq0.result c.marked_add.result
    (elim c.else-i-eq0.branch [ else-i-eq0-via-then-i-eq0+else-steps w ↦ (λ e. w.if-steps.false) | else-i-eq0-via-else-i-eq0 w ↦ (λ e. absurd (w.if-i-eq0.false e)) ])
    c.requires.start c.requires.free c.requires.counted c.requires.row c.source-row.ensures c.convolved.ensures c.convolved-else-i-eq0.ensures c.marked_add.ensures
