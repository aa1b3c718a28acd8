use Rattle.luo_value_types.proofs.StopLemmas.{StopsAt-left}
use Rattle.luo_value_types.proofs.ValueSteps.{stopped, atom_made}
use Rattle.luo_value_types.proofs.values.atom.Goals as goal

pub returns-in_err-own : goal.returns-in_err-own
returns-in_err-own c = stopped c.from_residual.result _ _ _ c.from_residual.ensures.1 (StopsAt-left _ _ _ c.in_err-own.ensures.1.1)

pub returns-in-Some : goal.returns-in-Some
returns-in-Some c =
    let m = atom_made c.args.context.now.setting.now c.args.expected c.args.charge.now c.args.at c.in-Some.weight c.in_ok-own.own c.args.maker.now.body c.in_ok-own.ensures.0 c.in_ok-own.ensures.1.0 c.in-Some.ensures.atom c.args.context.now.scope.now c.args.maker.now.next in
    (m.unbroken, (m, tt))
