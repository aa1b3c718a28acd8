use Rattle.std.proofs.Common.{take}
use Rattle.luo_model.specs.View.{plain_of}
use Rattle.luo_answer.specs.Report.{AreTables}
use Rattle.luo_answer.proofs.rows.tables_of.Given as goal

abbrev pub invariant-loop-f : goal.invariant-loop-f
invariant-loop-f l = AreTables (plain_of l.program) l.last (take l.f-index l.f-items) l.tables
