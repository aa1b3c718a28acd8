-- How many structures some well-known types have.
use Rattle.std.proofs.Common.{[], ◌∷◌, refl, None, Some}
use Rattle.luo_model.specs.declared.program.Universe.TheVariants.{Unlabelled, Labelled}
use Rattle.luo_model.specs.declared.program.Kind.TheVariants.{Sequence, Set, Cycle, Multiset, Powerset}
use Rattle.luo_model.specs.Order.{order_of}
use Rattle.luo_model.specs.Examples.{choosing, beside_nothing, collection, of_two, pairs_of_sets}
use Rattle.luo_model.specs.Programs.{binary, permutations, partitions}
use Rattle.luo_model.specs.FactsCounts.{BinaryTreesAreCounted, BranchesAreCountedApart, EmptyFactorChangesNoCount, LabelledPointsAreCounted, LabelledProductsAreCounted, CopiesAreCounted, PartitionsAreCounted, BoundsAreCounted}
use Rattle.luo_model.proofs.Decided.{count, counts}

pub binary_trees_are_counted : BinaryTreesAreCounted
unfolding order_of
binary_trees_are_counted = counts binary 2 0 (1 ∷ 1 ∷ 2 ∷ 5 ∷ []) refl

pub branches_are_counted_apart : BranchesAreCountedApart
unfolding order_of
branches_are_counted_apart = count choosing 1 1 2 refl

pub empty_factor_changes_no_count : EmptyFactorChangesNoCount
unfolding order_of
empty_factor_changes_no_count = counts beside_nothing 2 0 (0 ∷ 1 ∷ 0 ∷ []) refl

pub labelled_points_are_counted : LabelledPointsAreCounted
unfolding order_of
labelled_points_are_counted = (
  counts (collection Labelled Sequence 0 None) 1 0 (1 ∷ 1 ∷ 2 ∷ 6 ∷ []) refl,
  counts (collection Labelled Set 0 None) 1 0 (1 ∷ 1 ∷ 1 ∷ 1 ∷ []) refl,
  counts (collection Labelled Cycle 1 None) 1 0 (0 ∷ 1 ∷ 1 ∷ 2 ∷ []) refl,
)

pub labelled_products_are_counted : LabelledProductsAreCounted
unfolding order_of
labelled_products_are_counted = (counts permutations 2 0 (1 ∷ 1 ∷ 2 ∷ 6 ∷ []) refl, counts pairs_of_sets 2 0 (1 ∷ 2 ∷ 4 ∷ 8 ∷ []) refl)

pub copies_are_counted : CopiesAreCounted
unfolding order_of
copies_are_counted = (counts (of_two Multiset 0 None) 2 0 (1 ∷ 2 ∷ 3 ∷ 4 ∷ []) refl, counts (of_two Powerset 0 None) 2 0 (1 ∷ 2 ∷ 1 ∷ 0 ∷ []) refl)

pub partitions_are_counted : PartitionsAreCounted
unfolding order_of
partitions_are_counted = counts partitions 2 0 (1 ∷ 1 ∷ 2 ∷ 3 ∷ 5 ∷ []) refl

pub bounds_are_counted : BoundsAreCounted
unfolding order_of
bounds_are_counted = (
  counts (collection Unlabelled Sequence 1 None) 1 0 (0 ∷ 1 ∷ 1 ∷ []) refl,
  counts (collection Unlabelled Sequence 1 (Some 2)) 1 0 (0 ∷ 1 ∷ 1 ∷ 0 ∷ []) refl,
  counts (of_two Multiset 2 (Some 2)) 2 0 (0 ∷ 0 ∷ 3 ∷ 0 ∷ []) refl,
  counts (of_two Powerset 1 (Some 1)) 2 0 (0 ∷ 2 ∷ 0 ∷ []) refl,
)
