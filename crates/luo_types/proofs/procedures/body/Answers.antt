use Rattle.std.proofs.Common.{subst, ap}
use Rattle.luo_source.specs.View.{source_value_of, proc_body_of, proc_def_of}
use Rattle.luo_rules.specs.Breaches.{StopsAt}
use Rattle.luo_rules.specs.Meanings.{type_use}
use Rattle.luo_types.proofs.Passing.{passed-on}
use Rattle.luo_types.proofs.ProceduresSoFar.{universe-stops, result-stops}
use Rattle.luo_types.proofs.procedures.body.Goals as goal

pub returns-in_err-check_universe-in-Value-clause-stops : goal.returns-in_err-check_universe-in-Value-clause-stops
returns-in_err-check_universe-in-Value-clause-stops c =
    passed-on _ _ _ c.from_residual-in_err-check_universe-in-Value.ensures.1
    (universe-stops c.args.context.now.setting.now (proc_def_of c.args.proc.now) c.args.on.node c.in-Value.colon c.in-Value.result (source_value_of c.in-Value.source) c.in_err-check_universe-in-Value.field-0.0 (ap proc_body_of c.in-Value.is) c.in_err-check_universe-in-Value.ensures.stops)

pub returns-in_err-use_type-in-Value-clause-stops : goal.returns-in_err-use_type-in-Value-clause-stops
returns-in_err-use_type-in-Value-clause-stops c =
    let at = c.in_err-use_type-in-Value.field-0.0 in
    passed-on _ _ _ c.from_residual-in_err-use_type-in-Value.ensures.1
    (result-stops c.args.context.now.setting.now (proc_def_of c.args.proc.now) c.args.on.node c.in-Value.colon c.in-Value.result (source_value_of c.in-Value.source) at (ap proc_body_of c.in-Value.is) c.in_ok-check_universe-in-Value.ensures.ok
    (subst (λ m. StopsAt (type_use m c.in-Value.result) at) c.meant-meant.ensures c.in_err-use_type-in-Value.ensures.stops))
