-- Equations of small programs, evaluated by computation.
use Rattle.std.proofs.Common.{refl}
use Rattle.luo_equation.specs.Series.{over_shares_z, coll, point}
use Rattle.luo_system.specs.Plain.{sum_of, product_of, walk_of}
use Rattle.luo_system.specs.Evaluated.{SystemOfCollections, PermutationsGive, PartitionsGive, DistinctPartitionsGive}

pub system-collections : SystemOfCollections
unfolding sum_of product_of walk_of
system-collections u inside outside = refl

pub permutations-give : PermutationsGive
unfolding sum_of product_of walk_of over_shares_z coll point
permutations-give = (
  ((_, refl, refl, refl), (_, refl, refl, refl), (_, refl, refl, refl)),
  ((_, refl, refl, refl), (_, refl, refl, refl), (_, refl, refl, refl)),
  ((_, refl, refl, refl), (_, refl, refl, refl), (_, refl, refl, refl)),
)

pub partitions-give : PartitionsGive
unfolding sum_of product_of walk_of over_shares_z coll point
partitions-give = (
  ((_, refl, refl, refl), (_, refl, refl, refl), (_, refl, refl, refl)),
  ((_, refl, refl, refl), (_, refl, refl, refl), (_, refl, refl, refl)),
)

pub distinct-give : DistinctPartitionsGive
unfolding sum_of product_of walk_of over_shares_z coll point
distinct-give = (
  ((_, refl, refl, refl), (_, refl, refl, refl), (_, refl, refl, refl)),
  ((_, refl, refl, refl), (_, refl, refl, refl), (_, refl, refl, refl)),
)
