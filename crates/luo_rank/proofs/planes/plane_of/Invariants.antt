use Rattle.std.proofs.Common.{slice_index}
use Rattle.luo_rank.specs.inner.Lookup.{ArePlaneRows}
use Rattle.luo_rank.proofs.planes.plane_of.Given as goal

abbrev pub invariant-loop-k : goal.invariant-loop-k
invariant-loop-k l = ArePlaneRows l.kind (slice_index l.counts) l.d l.last l.k l.rows
