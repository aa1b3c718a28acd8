use Rattle.std.proofs.Common.{◌≡◌, ◌<◌, inl, inr, ◌∙◌, arith}
use Rattle.luo_model.specs.Tree.{labels_of}
use Rattle.luo_struct.specs.View.{tree_of}
use Rattle.luo_struct.specs.inner.Passes.{copies_of}
use Rattle.luo_struct.proofs.LabelOrder.{beyond_start, beyond_ends, fewer_here, fewer_there, beyond_next, copies_exact, label_more}
use Rattle.luo_struct.proofs.labels.by_labels.Goals.{then-label-other-via-then-label-other, then-label-other-via-else-label-other+then-label-eq0}
use Rattle.luo_struct.proofs.labels.by_labels.Goals as goal

pub loop-label-init : goal.loop-label-init
loop-label-init c = beyond_start (tree_of c.args.a.now) (tree_of c.args.b.now)

pub returns-then-label-other : goal.returns-then-label-other
returns-then-label-other c = c.cmp.ensures ∙
    beyond_ends (tree_of c.args.a.now) (tree_of c.args.b.now) c.loop-label.past c.next_label-label.result c.next_label-other.result c.next_label-label.ensures c.next_label-other.ensures
    (elim c.then-label-other.branch [
      | then-label-other-via-then-label-other w ↦ inl w.if-label-other.true
      | then-label-other-via-else-label-other+then-label-eq0 w ↦ inr (w.if-label-other.false, w.if-label-eq0.true)
    ]) c.loop-label.invariant

pub returns-then-copies-others : goal.returns-then-copies-others
returns-then-copies-others c =
    let few : copies_of c.next_label-label.result (labels_of (tree_of c.args.a.now)) < copies_of c.next_label-label.result (labels_of (tree_of c.args.b.now)) =
    omega (arith, copies_exact (tree_of c.args.a.now) c.next_label-label.result _ c.copies_of-copies.ensures c.requires.a_few, copies_exact (tree_of c.args.b.now) c.next_label-label.result _ c.copies_of-others.ensures c.requires.b_few) in
    c.cmp-then-copies-others.ensures ∙
    fewer_here (tree_of c.args.a.now) (tree_of c.args.b.now) c.loop-label.past c.next_label-label.result c.next_label-other.result c.next_label-label.ensures c.next_label-other.ensures (omega arith) (omega arith) c.loop-label.invariant
    c.next_label.result c.next_label.ensures few

pub returns-then-others-copies : goal.returns-then-others-copies
returns-then-others-copies c =
    let few : copies_of c.next_label-label.result (labels_of (tree_of c.args.b.now)) < copies_of c.next_label-label.result (labels_of (tree_of c.args.a.now)) =
    omega (arith, copies_exact (tree_of c.args.a.now) c.next_label-label.result _ c.copies_of-copies.ensures c.requires.a_few, copies_exact (tree_of c.args.b.now) c.next_label-label.result _ c.copies_of-others.ensures c.requires.b_few) in
    c.cmp-then-others-copies.ensures ∙
    fewer_there (tree_of c.args.a.now) (tree_of c.args.b.now) c.loop-label.past c.next_label-label.result c.next_label-other.result c.next_label-label.ensures c.next_label-other.ensures (omega arith) (omega arith) c.loop-label.invariant
    c.next_label-then-others-copies.result c.next_label-then-others-copies.ensures few

pub loop-label-smaller : goal.loop-label-smaller
loop-label-smaller c = omega (arith, label_more (tree_of c.args.a.now) c.loop-label.past c.next_label-label.result c.next_label-label.ensures (omega arith))

pub loop-label-preserved : goal.loop-label-preserved
loop-label-preserved c =
    let same : copies_of c.next_label-label.result (labels_of (tree_of c.args.a.now)) ≡ copies_of c.next_label-label.result (labels_of (tree_of c.args.b.now)) =
    omega (arith, copies_exact (tree_of c.args.a.now) c.next_label-label.result _ c.copies_of-copies.ensures c.requires.a_few, copies_exact (tree_of c.args.b.now) c.next_label-label.result _ c.copies_of-others.ensures c.requires.b_few) in
    beyond_next (tree_of c.args.a.now) (tree_of c.args.b.now) c.loop-label.past c.next_label-label.result c.next_label-other.result c.next_label-label.ensures c.next_label-other.ensures (omega arith) (omega arith) c.loop-label.invariant same
