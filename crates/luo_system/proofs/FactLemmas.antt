-- The equations of three small programs, by computation.
use Rattle.std.proofs.Common.{refl}
use Rattle.luo_system.specs.Plain.{sum_of, product_of, walk_of}
use Rattle.luo_system.specs.Facts.{SystemOfTrees, SystemOfRooted}
use Rattle.luo_system.specs.FactsCases.{SystemOfCases}

pub system-trees : SystemOfTrees
unfolding sum_of product_of walk_of
system-trees = refl

pub system-rooted : SystemOfRooted
unfolding sum_of product_of walk_of
system-rooted = refl

pub system-cases : SystemOfCases
unfolding sum_of product_of walk_of
system-cases = refl
