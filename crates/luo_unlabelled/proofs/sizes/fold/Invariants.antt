use Rattle.std.proofs.Common.{◌-◌, length}
use Rattle.luo_unlabelled.specs.inner.Sizes.{count_fold, IsFolded}
use Rattle.luo_unlabelled.proofs.sizes.fold.Given as goal

abbrev pub invariant-loop-done : goal.invariant-loop-done
invariant-loop-done l = IsFolded (count_fold l.ways l.d) (length l.initial.cells - l.done) l.initial.cells l.cells
