use Rattle.luo_num.proofs.LimitLines.{heads-say_limits, lines-say_limits}
use Rattle.luo_num.proofs.laws.limit_lines.Goals as goal

pub returns-clause-heads : goal.returns-clause-heads
returns-clause-heads c = heads-say_limits

pub returns-clause-lines : goal.returns-clause-lines
returns-clause-lines c = lines-say_limits
