use Rattle.luo_struct.specs.View.{tree_of, tree_list}
use Rattle.luo_struct.proofs.ViewLemmas.{tuple_tree, collection_tree, branch_tree}
use Rattle.luo_struct.proofs.TextLemmas.{next_put, branch_put, tuple_put, collection_put}
use Rattle.luo_struct.proofs.text.+puts.Goals as goal

pub put_parts-loop-part-preserved : goal.put_parts-loop-part-preserved
put_parts-loop-part-preserved t c =
    next_put c.put_structure.new.text.items _ c.loop-part.part-index c.part-item.result c.loop-part.text.items c.push.new.self.items c.put_structure-in-loop-part.new.text.items
    c.loop-part-test.true c.part-item.is c.in_ok-push.ensures.items c.in_ok-put_structure-2.ensures c.loop-part.invariant

pub put_structure-returns-in_ok-put_structure-in-Inj : goal.put_structure-returns-in_ok-put_structure-in-Inj
put_structure-returns-in_ok-put_structure-in-Inj t c =
    branch_put c.args.text.now.items (tree_of c.args.s.now) (tree_of c.get.result.now) c.in-Inj.branch c.put_number.new.text.items c.push.new.self.items c.put_structure.new.text.items
    (branch_tree c.args.s.now c.in-Inj.branch c.in-Inj.inner c.get.result.now c.in-Inj.is c.get.ensures) c.in_ok-put_number-in-Inj.ensures c.in_ok-push-in-Inj.ensures.items c.in_ok-put_structure-in-Inj.ensures

pub put_structure-returns-in_ok-push-in-Tup-2 : goal.put_structure-returns-in_ok-push-in-Tup-2
put_structure-returns-in_ok-push-in-Tup-2 t c =
    tuple_put c.args.text.now.items (tree_of c.args.s.now) (tree_list c.as_slice.result.now) c.push-in-Tup.new.self.items c.put_parts.new.text.items c.push-in-Tup-2.new.self.items
    (tuple_tree c.args.s.now c.in-Tup.parts c.as_slice.result.now c.in-Tup.is c.as_slice.ensures) c.in_ok-push-in-Tup.ensures.items c.in_ok-put_parts-in-Tup.ensures c.in_ok-push-in-Tup-2.ensures.items

pub put_structure-returns-in_ok-push-in-Coll-2 : goal.put_structure-returns-in_ok-push-in-Coll-2
put_structure-returns-in_ok-push-in-Coll-2 t c =
    collection_put c.args.text.now.items (tree_of c.args.s.now) (tree_list c.as_slice-in-Coll.result.now) c.push-in-Coll.new.self.items c.put_parts-in-Coll.new.text.items c.push-in-Coll-2.new.self.items
    (collection_tree c.args.s.now c.in-Coll.parts c.as_slice-in-Coll.result.now c.in-Coll.is c.as_slice-in-Coll.ensures) c.in_ok-push-in-Coll.ensures.items c.in_ok-put_parts-in-Coll.ensures c.in_ok-push-in-Coll-2.ensures.items
