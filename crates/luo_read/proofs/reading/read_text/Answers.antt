use Rattle.std.proofs.Common.{refl, sym, subst, get_or}
use Rattle.luo_read.specs.inner.Readers.{state_of, Stops}
use Rattle.luo_read.proofs.ReadLemmas.{stops_at, next_read, ends_unread, ends_read, all_read}
use Rattle.luo_read.proofs.ReaderLemmas.{few_open}
use Rattle.luo_read.proofs.reading.read_text.Goals as goal

pub returns-in-Err : goal.returns-in-Err
returns-in-Err c =
    subst (Stops c.args.text.now) (sym c.stopped.ensures)
    (stops_at c.args.text.now c.loop-at.at (get_or c.args.text.now c.loop-at.at 0)
    (state_of c.loop-at.reader) c.loop-at-test.true refl c.loop-at.invariant.ran c.loop-at.invariant.within (few_open c.loop-at.reader c.loop-at.invariant.few) c.in-Err.stop c.in-Err.ensures)

pub loop-at-preserved : goal.loop-at-preserved
loop-at-preserved c =
    let r = next_read c.args.text.now c.loop-at.at (get_or c.args.text.now c.loop-at.at 0)
    (state_of c.loop-at.reader) c.loop-at-test.true refl c.loop-at.invariant.ran c.loop-at.invariant.within (state_of c.in-Ok.next) c.in-Ok.ensures.0
    (few_open c.in-Ok.next c.in-Ok.ensures.1) in
    record { ran = r.0; few = c.in-Ok.ensures.1; within = r.1 }

pub returns-in-Ok-finished : goal.returns-in-Ok-finished
returns-in-Ok-finished c =
    let a = all_read c.args.text.now c.loop-at.at (state_of c.loop-at.reader) c.loop-at-test.false c.loop-at.invariant.ran c.loop-at.invariant.within in
    ends_read c.args.text.now (state_of c.loop-at.reader) a.0 a.1 _ c.in-Ok-finished.ensures

pub returns-in-Err-finished : goal.returns-in-Err-finished
returns-in-Err-finished c =
    let a = all_read c.args.text.now c.loop-at.at (state_of c.loop-at.reader) c.loop-at-test.false c.loop-at.invariant.ran c.loop-at.invariant.within in
    subst (Stops c.args.text.now) (sym c.stopped-in-Err-finished.ensures) (ends_unread c.args.text.now (state_of c.loop-at.reader) a.0 a.1 c.in-Err-finished.stop c.in-Err-finished.ensures)
