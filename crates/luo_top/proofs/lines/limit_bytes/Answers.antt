use Rattle.std.proofs.Common.{◌∙◌, ap, sym}
use Rattle.luo_num.proofs.LimitLines.{lines-say_limits}
use Rattle.luo_top.specs.Refusals.{limit_line}
use Rattle.luo_top.proofs.lines.limit_bytes.Goals as goal

pub returns-in-Definitions : goal.returns-in-Definitions
returns-in-Definitions c = lines-say_limits.1 ∙ ap limit_line (sym c.in-Definitions.is)

pub returns-in-Nodes : goal.returns-in-Nodes
returns-in-Nodes c = lines-say_limits.2 ∙ ap limit_line (sym c.in-Nodes.is)

pub returns-in-Parts : goal.returns-in-Parts
returns-in-Parts c = lines-say_limits.3 ∙ ap limit_line (sym c.in-Parts.is)

pub returns-in-Bounds : goal.returns-in-Bounds
returns-in-Bounds c = lines-say_limits.4 ∙ ap limit_line (sym c.in-Bounds.is)

pub returns-in-Multisets : goal.returns-in-Multisets
returns-in-Multisets c = lines-say_limits.5 ∙ ap limit_line (sym c.in-Multisets.is)

pub returns-in-Procedures : goal.returns-in-Procedures
returns-in-Procedures c = lines-say_limits.6 ∙ ap limit_line (sym c.in-Procedures.is)

pub returns-in-Statements : goal.returns-in-Statements
returns-in-Statements c = lines-say_limits.7 ∙ ap limit_line (sym c.in-Statements.is)

pub returns-in-Analyses : goal.returns-in-Analyses
returns-in-Analyses c = lines-say_limits.8 ∙ ap limit_line (sym c.in-Analyses.is)

pub returns-in-Walks : goal.returns-in-Walks
returns-in-Walks c = lines-say_limits.9 ∙ ap limit_line (sym c.in-Walks.is)
