use Rattle.std.proofs.Common.{◌-◌, length}
use Rattle.luo_unlabelled.specs.inner.Sizes.{total_fold, IsFolded}
use Rattle.luo_unlabelled.proofs.sizes.fold_total.Given as goal

abbrev pub invariant-loop-done : goal.invariant-loop-done
invariant-loop-done l = IsFolded (total_fold l.ways l.charges l.counts l.d) (length l.initial.cells - l.done) l.initial.cells l.cells
