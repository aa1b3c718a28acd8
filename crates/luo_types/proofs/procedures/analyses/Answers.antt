use Rattle.std.proofs.Common.{◌+◌, sym, ◌∙◌, ap, subst, drop}
use Rattle.luo_rules.specs.Breaches.{StopsAt}
use Rattle.luo_rules.specs.Meanings.{procedure_use}
use Rattle.luo_types.proofs.Passing.{passed-on}
use Rattle.luo_types.proofs.ProceduresSoFar.{at-name, names-stop, names-more, names-all}
use Rattle.luo_types.proofs.procedures.analyses.Goals as goal

pub returns-in_err-procedure-clause-stops : goal.returns-in_err-procedure-clause-stops
returns-in_err-procedure-clause-stops c =
    let s = c.args.setting.now in
    let name = c.name-item.result in
    let at = c.in_err-procedure.field-0.0 in
    let so = at-name s c.args.names.now c.loop-name.name-index name c.loop-name.made c.loop-name.invariant c.loop-name-test.true c.name-item.is in
    passed-on _ _ _ c.from_residual.ensures.1 (names-stop s c.args.names.now name (drop (c.loop-name.name-index + 1) c.args.names.now) c.loop-name.made at so (subst (λ m. StopsAt (procedure_use m name) at) c.meant.ensures c.in_err-procedure.ensures.stops))

pub loop-name-preserved : goal.loop-name-preserved
loop-name-preserved c =
    let s = c.args.setting.now in
    let name = c.name-item.result in
    let so = at-name s c.args.names.now c.loop-name.name-index name c.loop-name.made c.loop-name.invariant c.loop-name-test.true c.name-item.is in
    names-more s c.args.names.now name (drop (c.loop-name.name-index + 1) c.args.names.now) c.loop-name.made c.push.new.self c.in_ok-procedure.procedure so
    (ap (λ m. procedure_use m name) (sym c.meant.ensures) ∙ c.in_ok-procedure.ensures.ok) (sym c.meant.ensures ∙ c.in_ok-procedure.ensures.procedure) c.in_ok-push.ensures.ok

pub returns-clause-ok : goal.returns-clause-ok
returns-clause-ok c = (names-all c.args.setting.now c.args.names.now c.loop-name.name-index c.loop-name.made c.loop-name.invariant c.loop-name-test.false).0

pub returns-clause-formed : goal.returns-clause-formed
returns-clause-formed c = (names-all c.args.setting.now c.args.names.now c.loop-name.name-index c.loop-name.made c.loop-name.invariant c.loop-name-test.false).1
