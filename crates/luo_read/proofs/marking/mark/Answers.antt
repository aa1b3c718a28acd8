use Rattle.luo_read.proofs.MarkLemmas.{mark_set, mark_past}
use Rattle.luo_read.proofs.marking.mark.Goals as goal

pub returns-then-marks-place : goal.returns-then-marks-place
returns-then-marks-place c = mark_past c.args.marks.now c.args.label c.if-label-eq0.false c.if-marks-place.true

pub returns : goal.returns
returns c = mark_set c.args.marks.now c.args.label c.if-label-eq0.false c.if-marks-place.false
