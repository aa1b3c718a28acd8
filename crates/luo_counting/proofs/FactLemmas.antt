-- Known numbers, computed from the definitions.
use Rattle.std.proofs.Common.{refl}
use Rattle.luo_counting.specs.Sharing.{over_shares}
use Rattle.luo_counting.specs.Numbers.{coll_count, coll_total}
use Rattle.luo_counting.specs.WeightNumbers.{coll_in}
use Rattle.luo_counting.specs.Facts.{CatalanNumbers, Compositions, BellNumbers, StirlingCycles, StirlingSets, Orders, RoundOrders, Partitions, DistinctPartitions, PartsOfAll, SquaresOfAll}

pub catalan : CatalanNumbers
unfolding coll_count over_shares
catalan = (refl, refl, refl)

pub compositions : Compositions
unfolding coll_count over_shares
compositions = (refl, refl, refl)

pub bell : BellNumbers
unfolding coll_count over_shares
bell = (refl, refl, refl)

pub stirling_cycles : StirlingCycles
unfolding coll_count over_shares
stirling_cycles = (refl, refl, refl)

pub stirling_sets : StirlingSets
unfolding coll_count over_shares
stirling_sets = (refl, refl, refl)

pub orders : Orders
unfolding coll_count over_shares
orders = (refl, refl, refl)

pub round_orders : RoundOrders
unfolding coll_count over_shares
round_orders = (refl, refl, refl)

pub partitions : Partitions
unfolding coll_count over_shares
partitions = (refl, refl, refl)

pub distinct_partitions : DistinctPartitions
unfolding coll_count over_shares
distinct_partitions = (refl, refl, refl)

pub parts_of_all : PartsOfAll
unfolding coll_total over_shares
parts_of_all = (refl, refl, refl, refl, refl, refl)

pub squares_of_all : SquaresOfAll
unfolding coll_in over_shares
squares_of_all = (refl, refl, refl, refl)
