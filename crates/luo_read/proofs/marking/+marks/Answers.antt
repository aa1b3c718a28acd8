use Rattle.std.proofs.Common.{sym, ap, ◌∙◌}
use Rattle.luo_model.specs.Tree.{labels_of}
use Rattle.luo_read.specs.inner.Marks.{mark_all}
use Rattle.luo_struct.proofs.ViewLemmas.{tuple_tree, collection_tree, branch_tree}
use Rattle.luo_read.proofs.MarkLemmas.{marked_next}
use Rattle.luo_read.proofs.marking.+marks.Goals as goal

pub mark_labels-returns-in-Inj : goal.mark_labels-returns-in-Inj
mark_labels-returns-in-Inj t c = c.mark_labels.ensures ∙ ap (λ z. mark_all c.args.marks.now (labels_of z))
    (sym (branch_tree c.args.s.now c.in-Inj.branch c.in-Inj.inner c.get.result.now c.in-Inj.is c.get.ensures))

pub mark_labels-returns-in-Tup : goal.mark_labels-returns-in-Tup
mark_labels-returns-in-Tup t c = c.mark_parts.ensures ∙ ap (λ z. mark_all c.args.marks.now (labels_of z))
    (sym (tuple_tree c.args.s.now c.in-Tup.parts c.as_slice.result.now c.in-Tup.is c.as_slice.ensures))

pub mark_labels-returns-in-Coll : goal.mark_labels-returns-in-Coll
mark_labels-returns-in-Coll t c = c.mark_parts-in-Coll.ensures
    ∙ ap (λ z. mark_all c.args.marks.now (labels_of z)) (sym (collection_tree c.args.s.now c.in-Coll.parts c.as_slice-in-Coll.result.now c.in-Coll.is c.as_slice-in-Coll.ensures))

pub mark_parts-loop-part-preserved : goal.mark_parts-loop-part-preserved
mark_parts-loop-part-preserved t c =
    marked_next c.args.parts.now c.loop-part.part-index c.part-item.result c.args.marks.now c.loop-part.marks c.mark_labels.new.marks
    c.loop-part-test.true c.part-item.is c.loop-part.invariant c.mark_labels.ensures
