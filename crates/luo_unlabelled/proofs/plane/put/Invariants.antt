use Rattle.std.proofs.Common.{◌-◌}
use Rattle.luo_unlabelled.specs.inner.Planes.{count_put, IsPut}
use Rattle.luo_unlabelled.proofs.plane.put.Given as goal

abbrev pub invariant-loop-done : goal.invariant-loop-done
invariant-loop-done l = IsPut (count_put l.ways l.wide l.d) l.wide (l.deep - l.done) l.deep l.initial.cells l.cells
