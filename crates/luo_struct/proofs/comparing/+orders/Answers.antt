use Rattle.std.proofs.Common.{rules, arith}
use Rattle.luo_struct.specs.declared.structure.Structure.TheFolds.{the_lemmas}
use Rattle.luo_struct.specs.View.{tree_of, tree_list}
use Rattle.luo_struct.proofs.ViewLemmas.{tuple_tree, collection_tree, branch_tree}
use Rattle.luo_struct.proofs.CompareLemmas.{branches_compare, tuples_compare, collections_compare, order_by_form, order_by_size, left_next, left_unequal, left_end, small_inner, small_tuple, small_collection, small_part}
use Rattle.luo_struct.proofs.comparing.+orders.Goals as goal

pub by_form-order-requires : goal.by_form-order-requires
by_form-order-requires t c = (
  search (rules, the_lemmas),
  (
    small_inner (tree_of c.args.a.now) (tree_of c.get.result.now) c.in-Inj-Inj.branch (branch_tree c.args.a.now c.in-Inj-Inj.branch c.in-Inj-Inj.inner c.get.result.now c.in-Inj-Inj.is-0 c.get.ensures) c.requires.a_small,
    small_inner (tree_of c.args.b.now) (tree_of c.get-in-Equal-cmp.result.now) c.in-Inj-Inj.other_branch (branch_tree c.args.b.now c.in-Inj-Inj.other_branch c.in-Inj-Inj.other_inner c.get-in-Equal-cmp.result.now c.in-Inj-Inj.is-1 c.get-in-Equal-cmp.ensures) c.requires.b_small,
  ),
)

pub by_form-by_parts-requires : goal.by_form-by_parts-requires
by_form-by_parts-requires t c = (
  search (rules, the_lemmas),
  (
    small_tuple (tree_of c.args.a.now) (tree_list c.as_slice.result.now) (tuple_tree c.args.a.now c.in-Tup-Tup.parts c.as_slice.result.now c.in-Tup-Tup.is-0 c.as_slice.ensures) c.requires.a_small,
    small_tuple (tree_of c.args.b.now) (tree_list c.as_slice-in-Tup-Tup.result.now) (tuple_tree c.args.b.now c.in-Tup-Tup.others c.as_slice-in-Tup-Tup.result.now c.in-Tup-Tup.is-1 c.as_slice-in-Tup-Tup.ensures) c.requires.b_small,
  ),
)

pub by_form-by_parts-requires-in-Coll-Coll : goal.by_form-by_parts-requires-in-Coll-Coll
by_form-by_parts-requires-in-Coll-Coll t c = (
  search (rules, the_lemmas),
  (
    small_collection (tree_of c.args.a.now) (tree_list c.as_slice-in-Coll-Coll.result.now) (collection_tree c.args.a.now c.in-Coll-Coll.parts c.as_slice-in-Coll-Coll.result.now c.in-Coll-Coll.is-0 c.as_slice-in-Coll-Coll.ensures) c.requires.a_small,
    small_collection (tree_of c.args.b.now) (tree_list c.as_slice-in-Coll-Coll-2.result.now) (collection_tree c.args.b.now c.in-Coll-Coll.others c.as_slice-in-Coll-Coll-2.result.now c.in-Coll-Coll.is-1 c.as_slice-in-Coll-Coll-2.ensures) c.requires.b_small,
  ),
)

pub by_form-returns-in-Equal-cmp : goal.by_form-returns-in-Equal-cmp
by_form-returns-in-Equal-cmp t c = branches_compare (tree_of c.args.a.now) (tree_of c.args.b.now) c.in-Inj-Inj.branch c.in-Inj-Inj.other_branch (tree_of c.get.result.now) (tree_of c.get-in-Equal-cmp.result.now) c.order.result
    (branch_tree c.args.a.now c.in-Inj-Inj.branch c.in-Inj-Inj.inner c.get.result.now c.in-Inj-Inj.is-0 c.get.ensures)
    (branch_tree c.args.b.now c.in-Inj-Inj.other_branch c.in-Inj-Inj.other_inner c.get-in-Equal-cmp.result.now c.in-Inj-Inj.is-1 c.get-in-Equal-cmp.ensures) c.in-Equal-cmp.ensures c.order.ensures

pub by_form-returns-in-Tup-Tup : goal.by_form-returns-in-Tup-Tup
by_form-returns-in-Tup-Tup t c = tuples_compare (tree_of c.args.a.now) (tree_of c.args.b.now) (tree_list c.as_slice.result.now) (tree_list c.as_slice-in-Tup-Tup.result.now) c.by_parts.result
    (tuple_tree c.args.a.now c.in-Tup-Tup.parts c.as_slice.result.now c.in-Tup-Tup.is-0 c.as_slice.ensures) (tuple_tree c.args.b.now c.in-Tup-Tup.others c.as_slice-in-Tup-Tup.result.now c.in-Tup-Tup.is-1 c.as_slice-in-Tup-Tup.ensures) c.by_parts.ensures

pub by_form-returns-in-Coll-Coll : goal.by_form-returns-in-Coll-Coll
by_form-returns-in-Coll-Coll t c = collections_compare (tree_of c.args.a.now) (tree_of c.args.b.now) (tree_list c.as_slice-in-Coll-Coll.result.now) (tree_list c.as_slice-in-Coll-Coll-2.result.now) c.by_parts-in-Coll-Coll.result
    (collection_tree c.args.a.now c.in-Coll-Coll.parts c.as_slice-in-Coll-Coll.result.now c.in-Coll-Coll.is-0 c.as_slice-in-Coll-Coll.ensures) (collection_tree c.args.b.now c.in-Coll-Coll.others c.as_slice-in-Coll-Coll-2.result.now c.in-Coll-Coll.is-1 c.as_slice-in-Coll-Coll-2.ensures) c.by_parts-in-Coll-Coll.ensures

pub order-returns-in-Equal : goal.order-returns-in-Equal
order-returns-in-Equal t c = order_by_form (tree_of c.args.a.now) (tree_of c.args.b.now) c.by_form.result c.by_form.result c.in-Equal.ensures c.by_form.ensures

pub order-returns-in_default : goal.order-returns-in_default
order-returns-in_default t c = order_by_size (tree_of c.args.a.now) (tree_of c.args.b.now) c.size_and_labels.result c.size_and_labels.ensures c.in_default.not-Equal

pub by_parts-order-requires : goal.by_parts-order-requires
by_parts-order-requires t c = (
  search (rules, the_lemmas),
  (
    small_part c.args.parts.now c.loop-place.place c.index-parts-place.result c.loop-place-test.true c.index-parts-place.is c.requires.a_small,
    small_part c.args.others.now c.loop-place.place c.in-Some.other.now c.in-Some.ensures.lookup.3.0 c.in-Some.ensures.lookup.1 c.requires.b_small,
  ),
)

pub by_parts-returns-in_default-order : goal.by_parts-returns-in_default-order
by_parts-returns-in_default-order t c =
    left_unequal c.args.parts.now c.args.others.now c.loop-place.place c.loop-place.invariant c.index-parts-place.result c.in-Some.other.now c.order.result
    c.loop-place-test.true c.index-parts-place.is c.in-Some.ensures.lookup.3.0 c.in-Some.ensures.lookup.1 c.order.ensures c.in_default-order.not-Equal

pub by_parts-loop-place-preserved : goal.by_parts-loop-place-preserved
by_parts-loop-place-preserved t c =
    left_next c.args.parts.now c.args.others.now c.loop-place.place c.loop-place.invariant c.index-parts-place.result c.in-Some.other.now c.order.result
    c.loop-place-test.true c.index-parts-place.is c.in-Some.ensures.lookup.3.0 c.in-Some.ensures.lookup.1 c.order.ensures c.in-Equal.is

pub by_parts-returns : goal.by_parts-returns
by_parts-returns t c = left_end c.args.parts.now c.args.others.now c.loop-place.place c.loop-place.invariant c.cmp.result (omega arith) (omega arith) c.cmp.ensures
