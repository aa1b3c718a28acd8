use Rattle.std.proofs.Common.{slice_index}
use Rattle.luo_rank.specs.inner.Lookup.{ArePlanes}
use Rattle.luo_rank.proofs.planes.planes_of.Given as goal

abbrev pub invariant-loop-d : goal.invariant-loop-d
invariant-loop-d l = ArePlanes l.kind (slice_index l.counts) l.last l.d l.planes
