use Rattle.std.proofs.Common.{◌<◌, sym, subst, List, length}
use Rattle.luo_finite.specs.Listing.{In}
use Rattle.luo_model.specs.View.{plain_of}
use Rattle.luo_report.specs.declared.table.Table.{Table}
use Rattle.luo_answer.specs.Report.{AreTables}
use Rattle.luo_answer.proofs.StepLemmas.{starved}
use Rattle.luo_answer.proofs.commands.analyse.analysed.Goals as goal

pub reported-requires-clause-right : goal.reported-requires-clause-right
reported-requires-clause-right c = subst (AreTables (plain_of c.args.program.now) c.args.last c.args.program.now.analyses) (sym c.as_slice.ensures) c.in_ok-tables.ensures.right

pub reported-requires-clause-named : goal.reported-requires-clause-named
reported-requires-clause-named c = subst (λ (l : List Table). (t : Table) → In t l → t.callee < length c.args.program.now.procs) (sym c.as_slice.ensures) c.in_ok-tables.ensures.named

pub returns-in_err-tables : goal.returns-in_err-tables
returns-in_err-tables c = starved c.from_residual.ensures.1
