use Rattle.std.proofs.Common.{rules, refl, ◌≡◌, sym, ap, subst, None, slice_get}
use Rattle.luo_model.specs.View.{Held, plain_of}
use Rattle.luo_struct.specs.declared.structure.Structure.TheFolds.{the_lemmas}
use Rattle.luo_struct.specs.View.{tree_of, tree_list}
use Rattle.luo_struct.proofs.ViewLemmas.{tuple_tree, collection_tree, branch_tree}
use Rattle.luo_struct.proofs.MemberLemmas.{never, size_part, size_inner, size_tuple, size_collection, components_small, factors_long, no_member, union_member, product_member, collection_member, bounds_fail, collection_holds}
use Rattle.luo_struct.proofs.members.+members.Goals as goal

pub are_components-member-requires : goal.are_components-member-requires
are_components-member-requires t c = (search (rules, the_lemmas), size_part c.args.parts.now c.loop-part.part-index c.part-item.result c.loop-part-test.true c.part-item.is c.requires.small)

pub are_factors-returns-then-factors-parts : goal.are_factors-returns-then-factors-parts
are_factors-returns-then-factors-parts t c = never (λ h. c.if-factors-parts.true (factors_long (plain_of c.args.program.now) c.args.factors.now c.args.parts.now h))

pub are_factors-member-requires : goal.are_factors-member-requires
are_factors-member-requires t c = (search (rules, the_lemmas), size_part c.args.parts.now c.loop-place.place c.index-parts-place.result c.loop-place-test.true c.index-parts-place.is c.requires.small)

pub has_shape-is_branch-requires : goal.has_shape-is_branch-requires
has_shape-is_branch-requires t c = (
  search (rules, the_lemmas),
  size_inner (tree_of c.args.s.now) (tree_of c.get.result.now) c.in-Union-Inj.branch (branch_tree c.args.s.now c.in-Union-Inj.branch c.in-Union-Inj.inner c.get.result.now c.in-Union-Inj.is-1 c.get.ensures) c.requires.small,
)

pub has_shape-are_factors-requires : goal.has_shape-are_factors-requires
has_shape-are_factors-requires t c = (
  search (rules, the_lemmas),
  size_tuple (tree_of c.args.s.now) (tree_list c.as_slice-in-Product-Tup-2.result.now) (tuple_tree c.args.s.now c.in-Product-Tup.parts c.as_slice-in-Product-Tup-2.result.now c.in-Product-Tup.is-1 c.as_slice-in-Product-Tup-2.ensures) c.requires.small,
)

pub has_shape-is_collection-requires : goal.has_shape-is_collection-requires
has_shape-is_collection-requires t c = (
  search (rules, the_lemmas),
  size_collection (tree_of c.args.s.now) (tree_list c.as_slice-in-Coll-Coll.result.now) (collection_tree c.args.s.now c.in-Coll-Coll.parts c.as_slice-in-Coll-Coll.result.now c.in-Coll-Coll.is-1 c.as_slice-in-Coll-Coll.ensures) c.requires.small,
)

pub has_shape-returns-in-Union-Inj : goal.has_shape-returns-in-Union-Inj
has_shape-returns-in-Union-Inj t c =
    union_member (plain_of c.args.program.now) c.args.construct.now _ c.as_slice.result.now (tree_of c.args.s.now) c.in-Union-Inj.branch (tree_of c.get.result.now) c.is_branch.result c.in-Union-Inj.is-0 c.as_slice.ensures
    (branch_tree c.args.s.now c.in-Union-Inj.branch c.in-Union-Inj.inner c.get.result.now c.in-Union-Inj.is-1 c.get.ensures) c.is_branch.ensures

pub has_shape-returns-in-Product-Tup : goal.has_shape-returns-in-Product-Tup
has_shape-returns-in-Product-Tup t c =
    product_member (plain_of c.args.program.now) c.args.construct.now _ c.as_slice-in-Product-Tup.result.now (tree_of c.args.s.now) (tree_list c.as_slice-in-Product-Tup-2.result.now) c.are_factors.result c.in-Product-Tup.is-0 c.as_slice-in-Product-Tup.ensures
    (tuple_tree c.args.s.now c.in-Product-Tup.parts c.as_slice-in-Product-Tup-2.result.now c.in-Product-Tup.is-1 c.as_slice-in-Product-Tup-2.ensures) c.are_factors.ensures

pub has_shape-returns-in-Coll-Coll : goal.has_shape-returns-in-Coll-Coll
has_shape-returns-in-Coll-Coll t c =
    collection_member (plain_of c.args.program.now) c.args.construct.now c.in-Coll-Coll.kind c.in-Coll-Coll.part c.in-Coll-Coll.low c.in-Coll-Coll.high (tree_of c.args.s.now) (tree_list c.as_slice-in-Coll-Coll.result.now) c.is_collection.result c.in-Coll-Coll.is-0
    (collection_tree c.args.s.now c.in-Coll-Coll.parts c.as_slice-in-Coll-Coll.result.now c.in-Coll-Coll.is-1 c.as_slice-in-Coll-Coll.ensures) c.is_collection.ensures

pub is_collection-returns-then-not-is_within : goal.is_collection-returns-then-not-is_within
is_collection-returns-then-not-is_within t c = never (λ h. bounds_fail c.args.low c.args.high c.args.parts.now _ c.is_within.ensures c.if-not-is_within.true h.0)

pub is_collection-components_stand-requires : goal.is_collection-components_stand-requires
is_collection-components_stand-requires t c = record { small = components_small (plain_of c.args.program.now) c.args.component (tree_list c.args.parts.now) c.requires.small (c.if-not-are_components.ensures.0 refl) }

pub is_collection-returns : goal.is_collection-returns
is_collection-returns t c = collection_holds c.args.low c.args.high c.args.parts.now _ _ _ c.is_within.ensures c.if-not-is_within.false (c.if-not-are_components.ensures.0 refl) c.components_stand.ensures

pub member-returns-in-None : goal.member-returns-in-None
member-returns-in-None t c = never (no_member (plain_of c.args.program.now) c.args.node (tree_of c.args.s.now)
    (subst (λ nodes. slice_get nodes c.args.node ≡ None) (ap (λ (h : Held). h.nodes) c.program.view_is) (sym c.in-None.ensures.value)))
