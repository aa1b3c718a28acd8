use Rattle.std.proofs.Common.{◌<◌, inl, inr, arith}
use Rattle.luo_struct.specs.View.{tree_of}
use Rattle.luo_struct.proofs.MemberLemmas.{never}
use Rattle.luo_struct.proofs.WholeLemmas.{has_next, has_fails, has_all, next_past}
use Rattle.luo_struct.proofs.labelling.has_labels.Goals as goal

pub loop-next-init : goal.loop-next-init
loop-next-init c = record { within = omega arith; labels = λ k l. absurd (omega arith) }

pub returns-then-next-eq0 : goal.returns-then-next-eq0
returns-then-next-eq0 c = never (has_fails (tree_of c.args.s.now) c.loop-next.past c.next_label-next.result c.args.count c.next_label-next.ensures (omega (arith, c.from.ensures, c.loop-next-test.true)) (inl c.if-next-eq0.true))

pub overflow_sub-next : goal.overflow_sub-next
overflow_sub-next c = omega arith

pub returns-then-next-past : goal.returns-then-next-past
returns-then-next-past c = never (has_fails (tree_of c.args.s.now) c.loop-next.past c.next_label-next.result c.args.count c.next_label-next.ensures (omega (arith, c.from.ensures, c.loop-next-test.true)) (inr c.if-next-past.true))

pub loop-next-smaller : goal.loop-next-smaller
loop-next-smaller c =
    let more : c.loop-next.past < c.next_label-next.result = next_past (tree_of c.args.s.now) c.loop-next.past c.next_label-next.result c.next_label-next.ensures c.if-next-eq0.false in
    let left : c.loop-next.past < c.args.count = omega (arith, c.from.ensures, c.loop-next-test.true) in
    omega (arith, more, left)

pub loop-next-preserved : goal.loop-next-preserved
loop-next-preserved c = record {
  within = omega (arith, c.from.ensures, c.loop-next-test.true, c.if-next-past.false);
  labels = has_next (tree_of c.args.s.now) c.loop-next.past c.next_label-next.result c.next_label-next.ensures c.if-next-eq0.false c.if-next-past.false c.loop-next.invariant.labels;
}

pub returns : goal.returns
returns c = has_all (tree_of c.args.s.now) c.loop-next.past c.args.count (omega (arith, c.from.ensures, c.loop-next-test.false)) c.loop-next.invariant.labels
