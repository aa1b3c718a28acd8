use Rattle.luo_sample.proofs.Known.{first_lines, middle_lines, last_lines}
use Rattle.luo_sample.proofs.laws.lines_are_known.Goals as goal

pub returns-clause-first : goal.returns-clause-first
returns-clause-first c = first_lines

pub returns-clause-middle : goal.returns-clause-middle
returns-clause-middle c = middle_lines

pub returns-clause-last : goal.returns-clause-last
returns-clause-last c = last_lines
