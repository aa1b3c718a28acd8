-- How expressions and equations are written, by computation.
use Rattle.std.proofs.Common.{refl}
use Rattle.std.specs.Fmt.{digits}
use Rattle.luo_equation.specs.TextFacts.{LeavesAreWritten, OperationsAreWritten, KindsAreWritten, BoundsAreWritten, PointsAreWritten, EquationsAreWritten}

pub leaves-written : LeavesAreWritten
unfolding digits
leaves-written = (refl, refl, refl, refl, refl, refl)

pub operations-written : OperationsAreWritten
unfolding digits
operations-written = (refl, refl, refl, refl)

pub kinds-written : KindsAreWritten
kinds-written = (refl, refl, refl, refl, refl, refl)

pub bounds-written : BoundsAreWritten
unfolding digits
bounds-written = (refl, refl, refl, refl, refl, refl, refl)

pub points-written : PointsAreWritten
unfolding digits
points-written = (refl, refl, refl)

pub equations-written : EquationsAreWritten
equations-written = (refl, refl)
