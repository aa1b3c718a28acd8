-- How structures are written, by computation.
use Rattle.std.proofs.Common.{refl}
use Rattle.std.specs.Fmt.{digits}
use Rattle.luo_struct.specs.Facts.{StructuresAreWritten}

pub structures-written : StructuresAreWritten
unfolding digits
structures-written = (refl, refl, refl, refl, refl, refl, refl, refl)
