use Rattle.std.proofs.Common.{◌-◌}
use Rattle.luo_unlabelled.specs.inner.Planes.{total_put, IsPut}
use Rattle.luo_unlabelled.proofs.plane.put_total.Given as goal

abbrev pub invariant-loop-done : goal.invariant-loop-done
invariant-loop-done l = IsPut (total_put l.ways l.charges l.counts l.wide l.d) l.wide (l.deep - l.done) l.deep l.initial.cells l.cells
