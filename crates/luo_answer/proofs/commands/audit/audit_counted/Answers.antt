use Rattle.std.proofs.Common.{◌<◌, sym, subst, List, length}
use Rattle.luo_finite.specs.Listing.{In}
use Rattle.luo_model.specs.View.{plain_of}
use Rattle.luo_report.specs.declared.table.Table.{Table}
use Rattle.luo_answer.specs.Report.{AreTables}
use Rattle.luo_answer.proofs.StepLemmas.{go, stop, starved}
use Rattle.luo_answer.proofs.commands.audit.audit_counted.Goals as goal

pub reported-requires-clause-right : goal.reported-requires-clause-right
reported-requires-clause-right g c = subst (AreTables (plain_of c.args.program.now) c.args.size c.args.program.now.analyses) (sym c.as_slice.ensures) c.in_ok-found.ensures.right

pub reported-requires-clause-named : goal.reported-requires-clause-named
reported-requires-clause-named g c = subst (λ (l : List Table). (t : Table) → In t l → t.callee < length c.args.program.now.procs) (sym c.as_slice.ensures) c.in_ok-found.ensures.named

pub returns-in_err-counts : goal.returns-in_err-counts
returns-in_err-counts g c = starved c.from_residual.ensures.1

pub returns-in_err-few : goal.returns-in_err-few
returns-in_err-few g c = stop _ c.in_err-few.ensures c.from_residual-in_err-few.ensures.1

pub returns-in_err-found : goal.returns-in_err-found
returns-in_err-found g c = go _ c.in_ok-few.ensures (stop _ c.in_err-found.ensures.passes c.from_residual-in_err-found.ensures.1)

pub returns : goal.returns
returns g c = go _ c.in_ok-few.ensures (go _ c.in_ok-found.ensures.passes c.reported.ensures)
