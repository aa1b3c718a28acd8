-- The rows of some well-known programs, and the totals of the sites inside.
use Rattle.std.proofs.Common.{[], ◌∷◌, refl}
use Rattle.luo_model.specs.Order.{order_of}
use Rattle.luo_model.specs.Examples.{choosing}
use Rattle.luo_model.specs.Programs.{binary, permutations, partitions, hierarchies, rooted}
use Rattle.luo_model.specs.FactsTotals.{RowsSumCharges, PathLengthsAreTotalled, ComponentsAreTotalled, LeavesAreTotalled, NodesAreTotalled, InnerSitesAreTotalled}
use Rattle.luo_model.proofs.Decided.{rows, totals}

pub rows_sum_charges : RowsSumCharges
unfolding order_of
rows_sum_charges = (rows choosing 0 _ refl 1 ((2, 8) ∷ []) refl).0

pub path_lengths_are_totalled : PathLengthsAreTotalled
unfolding order_of
path_lengths_are_totalled = rows binary 1 _ refl 0 ((1, 0) ∷ (1, 0) ∷ (2, 2) ∷ (5, 14) ∷ []) refl

pub components_are_totalled : ComponentsAreTotalled
unfolding order_of
components_are_totalled = (
  rows permutations 0 _ refl 0 ((1, 0) ∷ (1, 1) ∷ (2, 3) ∷ (6, 11) ∷ []) refl,
  rows partitions 0 _ refl 0 ((1, 0) ∷ (1, 1) ∷ (2, 3) ∷ (3, 6) ∷ (5, 12) ∷ []) refl,
)

pub leaves_are_totalled : LeavesAreTotalled
unfolding order_of
leaves_are_totalled = rows hierarchies 0 _ refl 0 ((0, 0) ∷ (1, 1) ∷ (1, 2) ∷ (2, 6) ∷ []) refl

pub nodes_are_totalled : NodesAreTotalled
unfolding order_of
nodes_are_totalled = rows rooted 0 _ refl 0 ((0, 0) ∷ (1, 1) ∷ (2, 4) ∷ (9, 27) ∷ []) refl

pub inner_sites_are_totalled : InnerSitesAreTotalled
unfolding order_of
inner_sites_are_totalled = (
  totals binary 2 4 (4 ∷ 4 ∷ 2 ∷ 2 ∷ 2 ∷ 2 ∷ []) refl,
  totals permutations 2 0 (1 ∷ 3 ∷ 3 ∷ []) refl,
  totals hierarchies 2 0 (2 ∷ 2 ∷ 2 ∷ 2 ∷ 2 ∷ []) refl,
  totals rooted 2 0 (4 ∷ 4 ∷ 6 ∷ 2 ∷ 4 ∷ []) refl,
)
