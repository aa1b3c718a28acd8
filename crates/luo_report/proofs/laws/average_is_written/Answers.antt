use Rattle.luo_report.proofs.laws.average_is_written.Goals as goal
use Rattle.luo_report.proofs.AverageLemmas.{average-written}

pub returns : goal.returns
returns c = average-written
