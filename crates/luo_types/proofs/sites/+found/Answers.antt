use Rattle.std.proofs.Common.{sym, rules}
use Rattle.luo_model.specs.declared.body.Item.TheFolds.{the_lemmas}
use Rattle.luo_model.specs.Scopes.Stands.{stands}
use Rattle.luo_rules.specs.Settings.{shape_at, types_of}
use Rattle.luo_value_types.specs.inner.Stands.{stand_of}
use Rattle.luo_types.proofs.SitesSoFar.{items-at, items-more, found-at, found-more, found-all, found-end}
use Rattle.luo_types.proofs.SitesItems.{none-there, case-room, walk-room, case-found, walk-found}
use Rattle.luo_types.proofs.sites.+found.Goals as goal

pub arms-returns-in_default : goal.arms-returns-in_default
arms-returns-in_default t c =
    let all = stands c.args.on (shape_at c.args.setting.now c.args.on.node) in
    found-end (types_of c.args.setting.now) all c.args.arms.now c.args.found.now c.loop-place.place c.loop-place.found c.loop-place.invariant (none-there stand_of c.stand_at.result all c.loop-place.place c.in_default.not-Some c.stand_at.ensures)

pub arms-loop-place-preserved : goal.arms-loop-place-preserved
arms-loop-place-preserved t c =
    let p = types_of c.args.setting.now in
    let all = stands c.args.on (shape_at c.args.setting.now c.args.on.node) in
    let so = found-at p all c.args.arms.now c.args.found.now c.loop-place.place (stand_of c.in-Some.stand) c.index-arms-place.result c.loop-place.found c.loop-place.invariant (sym c.in-Some.ensures) c.loop-place-test.true c.index-arms-place.is in
    found-more p all c.args.arms.now c.args.found.now (stand_of c.in-Some.stand) _ c.index-arms-place.result _ c.loop-place.found c.arm.new.found so c.in_ok-arm.ensures

pub arms-returns : goal.arms-returns
arms-returns t c =
    found-all (types_of c.args.setting.now) (stands c.args.on (shape_at c.args.setting.now c.args.on.node)) c.args.arms.now c.args.found.now c.loop-place.place c.loop-place.found c.loop-place.invariant c.loop-place-test.false

pub item-arms-requires : goal.item-arms-requires
item-arms-requires t c = (search (rules, the_lemmas), case-room _ _ c.as_slice.result.now _ c.args.found.now.walks c.args.item.now c.in-Case.is c.as_slice.ensures c.requires)

pub item-walk-requires : goal.item-walk-requires
item-walk-requires t c = (search (rules, the_lemmas), walk-room _ c.in-Forall.body _ _ c.args.found.now.walks c.args.item.now c.in-Forall.is c.requires)

pub item-returns-in_ok-push-in-Case : goal.item-returns-in_ok-push-in-Case
item-returns-in_ok-push-in-Case t c =
    case-found (types_of c.args.setting.now) c.args.vars.now c.args.item.now c.args.found.now _ _ c.as_slice.result.now _ c.part_at-on.result c.arms.new.found c.push-in-Case.new.self c.in-Case.is c.as_slice.ensures c.part_at-on.ensures
    c.in_ok-arms-in-Case.ensures c.in_ok-push-in-Case.ensures.ok

pub item-returns-in_ok-walk-in-Forall : goal.item-returns-in_ok-walk-in-Forall
item-returns-in_ok-walk-in-Forall t c =
    walk-found (types_of c.args.setting.now) c.args.vars.now c.args.item.now c.args.found.now _ c.in-Forall.body _ _ c.part_at-in-Forall.result c.walk.new.found c.in-Forall.is c.part_at-in-Forall.ensures c.in_ok-walk-in-Forall.ensures

pub items-loop-one-preserved : goal.items-loop-one-preserved
items-loop-one-preserved t c =
    let p = types_of c.args.setting.now in
    let so = items-at p c.args.vars.now c.args.items.now c.args.found.now c.loop-one.one-index c.one-item.result c.loop-one.found c.loop-one.invariant c.loop-one-test.true c.one-item.is in
    items-more p c.args.vars.now c.args.items.now c.args.found.now c.one-item.result _ c.loop-one.found c.item.new.found so c.in_ok-item.ensures
