use Rattle.std.proofs.Common.{length, ◌+◌}
use Rattle.luo_stepper.proofs.labels.+merge.Given as goal

abbrev pub decreases-merge : goal.decreases-merge
decreases-merge l = length l.first.now + length l.rest.now
