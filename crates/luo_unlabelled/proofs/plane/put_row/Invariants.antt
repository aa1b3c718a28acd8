use Rattle.luo_unlabelled.specs.inner.Planes.{count_put, IsRowPut}
use Rattle.luo_unlabelled.proofs.plane.put_row.Given as goal

abbrev pub invariant-loop-m : goal.invariant-loop-m
invariant-loop-m l = IsRowPut (count_put l.ways l.wide l.d) l.wide l.k l.m l.initial.cells l.cells
