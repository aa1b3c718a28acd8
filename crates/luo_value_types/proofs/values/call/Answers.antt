use Rattle.luo_value_types.proofs.StopLemmas.{StopsAt-left}
use Rattle.luo_value_types.proofs.ValueSteps.{stopped, call_made}
use Rattle.luo_value_types.proofs.values.call.Goals as goal

pub returns-in_err-procedure : goal.returns-in_err-procedure
returns-in_err-procedure c = stopped c.from_residual.result _ _ _ c.from_residual.ensures.1 (StopsAt-left _ _ _ c.in_err-procedure.ensures.1.1)

pub returns : goal.returns
returns c =
    let m = call_made c.args.context.now.setting.now c.args.context.now.scope.now c.args.expected c.args.callee.now c.args.arg.now c.in_ok-var.var c.in_ok-procedure.procedure c.args.maker.now.body c.push_item.new.body c.args.maker.now.next c.take_site-site.result c.take_site-site.new.next c.in_ok-procedure.ensures.0 c.in_ok-procedure.ensures.1.0 (rw c.meant.ensures at c.in_ok-var.ensures.ok) c.in_ok-var.ensures.place c.take_site-site.ensures.taken c.take_site-site.ensures.left c.in_ok-push_item.ensures in
    (m.unbroken, (m, tt))
