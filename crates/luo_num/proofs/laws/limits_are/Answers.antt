use Rattle.luo_num.proofs.laws.limits_are.Goals as goal
use Rattle.luo_num.proofs.LimitLines.{text-limits, word-limits}

pub returns-clause-text : goal.returns-clause-text
returns-clause-text c = text-limits

pub returns-clause-words : goal.returns-clause-words
returns-clause-words c = word-limits
