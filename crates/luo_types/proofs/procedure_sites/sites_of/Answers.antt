use Rattle.std.proofs.Common.{◌+◌, [], ◌∷◌, arith, drop}
use Rattle.luo_model.specs.View.{body_of}
use Rattle.luo_rules.specs.Settings.{types_of}
use Rattle.luo_types.proofs.SitesSoFar.{walks-within}
use Rattle.luo_types.proofs.SitesInOrder.{procs-at, procs-few, procs-more}
use Rattle.luo_types.proofs.procedure_sites.sites_of.Goals as goal

pub overflow_add-walks : goal.overflow_add-walks
overflow_add-walks c =
    let p = types_of c.args.setting.now in
    let P = c.index-procs-caller.result in
    let so = procs-at p c.args.procs.now c.loop-caller.caller P c.loop-caller.sites c.loop-caller.walks c.loop-caller.invariant c.loop-caller-test.true c.index-procs-caller.is in
    omega (arith, procs-few p c.args.procs.now P (drop (c.loop-caller.caller + 1) c.args.procs.now) c.loop-caller.caller c.loop-caller.sites c.loop-caller.walks so, c.in_ok-walks.ensures.walks, walks-within p (P.on ∷ []) (body_of P.body))

pub loop-caller-preserved : goal.loop-caller-preserved
loop-caller-preserved c =
    let p = types_of c.args.setting.now in
    let P = c.index-procs-caller.result in
    let so = procs-at p c.args.procs.now c.loop-caller.caller P c.loop-caller.sites c.loop-caller.walks c.loop-caller.invariant c.loop-caller-test.true c.index-procs-caller.is in
    procs-more p c.args.procs.now P (drop (c.loop-caller.caller + 1) c.args.procs.now) c.loop-caller.caller c.loop-caller.sites c.push_procedure.new.sites c.loop-caller.walks c.in_ok-walks.field-0 so c.in_ok-walks.ensures.sites c.in_ok-walks.ensures.walks
