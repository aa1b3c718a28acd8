use Rattle.std.proofs.Common.{subst}
use Rattle.luo_rules.specs.Breaches.{StopsAt}
use Rattle.luo_rules.specs.Meanings.{procedure_use}
use Rattle.luo_value_types.proofs.StopLemmas.{StopsAt-left}
use Rattle.luo_value_types.proofs.ValueSteps.{stopped}
use Rattle.luo_types.proofs.statements.call.Goals as goal

pub returns-in_err-procedure : goal.returns-in_err-procedure
returns-in_err-procedure c =
    let at = c.in_err-procedure.field-0.0 in
    let stops = subst (λ m. StopsAt (procedure_use m c.args.callee.now) at) c.meant-meant.ensures c.in_err-procedure.ensures.stops in
    stopped c.from_residual.result _ _ _ c.from_residual.ensures.1 (StopsAt-left _ _ at stops)
