use Rattle.std.proofs.Common.{slice_index}
use Rattle.luo_unlabelled.proofs.CellLemmas.{entry_none, entry_whole}
use Rattle.luo_unlabelled.proofs.steps.entry.Goals.{else-i-eq0-via-then-i-eq0+else-steps, else-i-eq0-via-else-i-eq0}
use Rattle.luo_unlabelled.proofs.steps.entry.Goals as goal

pub returns-then-steps : goal.returns-then-steps
returns-then-steps c = entry_none c.args.steps (slice_index c.args.comp.now) c.args.i c.args.n c.empty-empty.result c.if-i-eq0.true c.if-steps.true c.requires.start c.empty-empty.ensures

pub returns-else-i-eq0 : goal.returns-else-i-eq0
returns-else-i-eq0 c =
    entry_whole c.args.steps c.args.comp.now c.args.cells.now c.args.i c.args.n c.source.result c.empty-empty.result c.convolved.result c.marked_add.result
    (elim c.else-i-eq0.branch [ else-i-eq0-via-then-i-eq0+else-steps w ↦ (λ e. w.if-steps.false) | else-i-eq0-via-else-i-eq0 w ↦ (λ e. absurd (w.if-i-eq0.false e)) ])
    c.requires.start c.requires.row c.source.ensures c.empty-empty.ensures c.convolved.ensures c.marked_add.ensures
