use Rattle.std.proofs.Common.{length}
use Rattle.luo_rank.proofs.parting.+part_from.Given as goal

abbrev pub decreases-part_from : goal.decreases-part_from
decreases-part_from l = length l.labels.now
