use Rattle.std.proofs.Common.{sym, ap, ◌∙◌}
use Rattle.luo_model.specs.Tree.{labels_of}
use Rattle.luo_struct.specs.inner.Passes.{next_above}
use Rattle.luo_struct.proofs.ViewLemmas.{tuple_tree, collection_tree, branch_tree}
use Rattle.luo_struct.proofs.PassLemmas.{next_more}
use Rattle.luo_struct.proofs.labels.+next.Goals as goal

pub next_label-returns-in-Inj : goal.next_label-returns-in-Inj
next_label-returns-in-Inj t c = c.next_label.ensures ∙ ap (λ t. next_above c.args.past (labels_of t)) (sym (branch_tree c.args.s.now c.in-Inj.branch c.in-Inj.inner c.get.result.now c.in-Inj.is c.get.ensures))

pub next_label-returns-in-Tup : goal.next_label-returns-in-Tup
next_label-returns-in-Tup t c = c.next_of_all.ensures ∙ ap (λ t. next_above c.args.past (labels_of t)) (sym (tuple_tree c.args.s.now c.in-Tup.parts c.as_slice.result.now c.in-Tup.is c.as_slice.ensures))

pub next_label-returns-in-Coll : goal.next_label-returns-in-Coll
next_label-returns-in-Coll t c = c.next_of_all-in-Coll.ensures ∙ ap (λ t. next_above c.args.past (labels_of t)) (sym (collection_tree c.args.s.now c.in-Coll.parts c.as_slice-in-Coll.result.now c.in-Coll.is c.as_slice-in-Coll.ensures))

pub next_of_all-loop-part-preserved : goal.next_of_all-loop-part-preserved
next_of_all-loop-part-preserved t c =
    next_more c.args.past c.args.parts.now c.loop-part.part-index c.part-item.result c.loop-part.least c.next_label.result c.lesser-least.result
    c.loop-part-test.true c.part-item.is c.next_label.ensures c.lesser-least.ensures c.loop-part.invariant
