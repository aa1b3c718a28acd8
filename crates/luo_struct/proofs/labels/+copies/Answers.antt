use Rattle.std.proofs.Common.{◌^◌, ◌-◌, min, arith, sym, ap, ◌∙◌}
use Rattle.luo_model.specs.Tree.{labels_of}
use Rattle.luo_struct.specs.inner.Passes.{copies_of}
use Rattle.luo_struct.proofs.ViewLemmas.{tuple_tree, collection_tree, branch_tree}
use Rattle.luo_struct.proofs.PassLemmas.{copies_more}
use Rattle.luo_struct.proofs.labels.+copies.Goals as goal

pub copies_of-returns-in-Inj : goal.copies_of-returns-in-Inj
copies_of-returns-in-Inj t c = c.copies_of.ensures ∙ ap (λ t. min (copies_of c.args.label (labels_of t)) (2 ^ 64 - 1)) (sym (branch_tree c.args.s.now c.in-Inj.branch c.in-Inj.inner c.get.result.now c.in-Inj.is c.get.ensures))

pub copies_of-returns-in-Tup : goal.copies_of-returns-in-Tup
copies_of-returns-in-Tup t c = c.copies_of_all.ensures ∙ ap (λ t. min (copies_of c.args.label (labels_of t)) (2 ^ 64 - 1)) (sym (tuple_tree c.args.s.now c.in-Tup.parts c.as_slice.result.now c.in-Tup.is c.as_slice.ensures))

pub copies_of-returns-in-Coll : goal.copies_of-returns-in-Coll
copies_of-returns-in-Coll t c = c.copies_of_all-in-Coll.ensures ∙ ap (λ t. min (copies_of c.args.label (labels_of t)) (2 ^ 64 - 1)) (sym (collection_tree c.args.s.now c.in-Coll.parts c.as_slice-in-Coll.result.now c.in-Coll.is c.as_slice-in-Coll.ensures))

pub copies_of_all-loop-part-preserved : goal.copies_of_all-loop-part-preserved
copies_of_all-loop-part-preserved t c = omega (arith, copies_more c.args.label _ _ _ c.loop-part-test.true c.part-item.is)
