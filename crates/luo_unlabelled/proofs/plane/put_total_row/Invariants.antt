use Rattle.luo_unlabelled.specs.inner.Planes.{total_put, IsRowPut}
use Rattle.luo_unlabelled.proofs.plane.put_total_row.Given as goal

abbrev pub invariant-loop-m : goal.invariant-loop-m
invariant-loop-m l = IsRowPut (total_put l.ways l.charges l.counts l.wide l.d) l.wide l.k l.m l.initial.cells l.cells
