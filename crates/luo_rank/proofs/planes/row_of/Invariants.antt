use Rattle.std.proofs.Common.{slice_index}
use Rattle.luo_rank.specs.inner.Lookup.{IsCellRow}
use Rattle.luo_rank.proofs.planes.row_of.Given as goal

abbrev pub invariant-loop-n : goal.invariant-loop-n
invariant-loop-n l = IsCellRow l.kind (slice_index l.counts) l.d l.k l.n l.row
