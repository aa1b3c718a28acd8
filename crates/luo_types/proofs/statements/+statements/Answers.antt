use Rattle.std.proofs.Common.{◌+◌, [], length, sym, ◌∙◌, ap, subst, refl, arith, rules}
use Rattle.luo_model.specs.declared.body.Body.{Body}
use Rattle.luo_model.specs.Scopes.Stands.{stands}
use Rattle.luo_source.specs.declared.statements.Stmt.{Skip, Charge, Call, Block, Case, Forall}
use Rattle.luo_source.specs.View.{stmt_of}
use Rattle.luo_rules.specs.Breaches.{StopsAt}
use Rattle.luo_rules.specs.Settings.{shape_at}
use Rattle.luo_value_types.specs.inner.Room.{HasRoom}
use Rattle.luo_value_types.specs.inner.Stands.{stand_of}
use Rattle.luo_value_types.proofs.StopLemmas.{StopsAt-pattern}
use Rattle.luo_source.specs.declared.statements.Stmt.TheFolds.{the_lemmas}
use Rattle.luo_rules.specs.Counted.{stmt_statements}
use Rattle.luo_rules.specs.StatementBreaches.{stmt_breaches}
use Rattle.luo_rules.specs.StatementCore.{stmt_sites}
use Rattle.luo_types.specs.inner.StatementsMade.{IsStmtAdded}
use Rattle.luo_types.proofs.ArmsSoFar.{at-arm, arms-stop, arms-more, arms-all}
use Rattle.luo_value_types.proofs.ValueSteps.{stopped, case_each}
use Rattle.luo_types.proofs.StatementsSoFar.{at-stmt, so_far-more, so_far-all}
use Rattle.luo_types.proofs.StatementSteps.{skip-added, charge-added, case-variable_stops, case-stops, case-added, case-room, case-site, walk-variable_stops, walk-stops, walk-added, walk-room, walk-site, block-room, block-added, block-stops, stmt-is, added-ok}
use Rattle.luo_types.proofs.statements.+statements.Goals as goal
use Rattle.luo_types.proofs.statements.+statements.Goals.{stmt-in-Skip, stmt-in-Charge+in_ok-charge-in-Charge, stmt-in-Call+in_ok-call-in-Call, stmt-in-Block+in_ok-stmts-in-Block, stmt-in-Case+in_ok-case-in-Case, stmt-in-Forall+in_ok-walk-in-Forall}

abbrev no_body : Body
no_body = record { own = 0; items = [] }

pub arm-returns-in_err-opened : goal.arm-returns-in_err-opened
arm-returns-in_err-opened t c =
    stopped c.from_residual.result _ _ _ c.from_residual.ensures.1 (StopsAt-pattern c.args.context.now.setting.now (stand_of c.args.stand) c.args.var.now c.args.arm.now.pattern _ _ c.in_err-opened.ensures.stops)

pub arms-returns-in_err-done : goal.arms-returns-in_err-done
arms-returns-in_err-done t c =
    let s = c.args.context.now.setting.now in
    let all = stands c.args.on (shape_at s c.args.on.node) in
    let so = at-arm s all c.args.var.now c.args.arms.now c.args.next.now c.loop-place.place _ c.index-arms-place.result c.loop-place.made c.loop-place.next c.loop-place.invariant c.arm_stand-stand.ensures c.loop-place-test.true c.index-arms-place.is in
    stopped c.from_residual.result _ _ _ c.from_residual.ensures.1 (arms-stop s all c.args.var.now c.args.arms.now c.args.next.now _ _ c.index-arms-place.result _ c.loop-place.made c.loop-place.next _ so c.in_err-done.ensures.1.1)

pub arms-loop-place-preserved : goal.arms-loop-place-preserved
arms-loop-place-preserved t c =
    let s = c.args.context.now.setting.now in
    let all = stands c.args.on (shape_at s c.args.on.node) in
    let so = at-arm s all c.args.var.now c.args.arms.now c.args.next.now c.loop-place.place _ c.index-arms-place.result c.loop-place.made c.loop-place.next c.loop-place.invariant c.arm_stand-stand.ensures c.loop-place-test.true c.index-arms-place.is in
    arms-more s all c.args.var.now c.args.arms.now c.args.next.now _ _ c.index-arms-place.result _ c.loop-place.made _ c.in_ok-done.done c.loop-place.next _ so c.in_ok-done.ensures.1.0 c.in_ok-push.ensures.ok

pub arms-returns : goal.arms-returns
arms-returns t c =
    let added =
    let s = c.args.context.now.setting.now in
    arms-all s (stands c.args.on (shape_at s c.args.on.node)) c.args.var.now c.args.arms.now c.args.next.now c.loop-place.place c.loop-place.made c.loop-place.next c.loop-place.invariant c.loop-place-test.false in
    (added.unbroken, (added, tt))

pub case-returns-in_err-there : goal.case-returns-in_err-there
case-returns-in_err-there t c =
    stopped c.from_residual.result _ _ _ c.from_residual.ensures.1 (case-variable_stops c.args.context.now.setting.now c.args.context.now.scope.now c.args.var.now c.args.branches.now _ _ refl c.in_err-there.ensures.stops)

pub case-arms-requires : goal.case-arms-requires
case-arms-requires t c =
    let room = case-room c.args.var.now c.args.branches.now c.args.maker.now.body.own c.args.maker.now.next c.requires.room in
    let even = case_each c.args.context.now.setting.now c.args.context.now.scope.now c.args.var.now (length c.args.branches.now) c.in_ok-there.there c.in_ok-there.ensures.ok c.in_ok-there.ensures.arms in
    (search (rules, the_lemmas), (room, even))

pub case-returns-in_err-made : goal.case-returns-in_err-made
case-returns-in_err-made t c =
    stopped c.from_residual-in_err-made.result _ _ _ c.from_residual-in_err-made.ensures.1
    (case-stops c.args.context.now.setting.now c.args.context.now.scope.now c.args.maker.now.body c.args.maker.now.body c.args.maker.now.next c.args.var.now c.args.branches.now c.in_ok-there.there _ c.in_ok-there.ensures.ok c.in_ok-there.ensures.arms c.in_err-made.ensures.1.1)

pub case-take_site-site-requires : goal.case-take_site-site-requires
case-take_site-site-requires t c = case-site c.args.var.now c.args.branches.now c.args.maker.now.body.own c.args.maker.now.next c.arms.new.next c.requires.room c.in_ok-made.ensures.1.0.numbered

pub case-returns : goal.case-returns
case-returns t c =
    let added =
    case-added c.args.context.now.setting.now c.args.context.now.scope.now c.args.maker.now.body c.push_item.new.body c.args.maker.now.next c.args.var.now c.args.branches.now c.in_ok-there.there c.in_ok-made.made c.arms.new.next
    c.in_ok-there.ensures.ok c.in_ok-there.ensures.arms c.in_ok-made.ensures.1.0 c.take_site-site.result c.take_site-site.new.next c.take_site-site.ensures.taken c.take_site-site.ensures.left c.in_ok-push_item.ensures in
    (added.unbroken, (added, tt))

pub stmt-stmts-requires : goal.stmt-stmts-requires
stmt-stmts-requires t c =
    let room = block-room _ c.as_slice.result.now c.args.stmt.now c.args.maker.now.body.own c.args.maker.now.next c.in-Block.is c.as_slice.ensures c.requires.room in
    (search (rules, the_lemmas), room)

pub stmt-returns-in_err-stmts-in-Block : goal.stmt-returns-in_err-stmts-in-Block
stmt-returns-in_err-stmts-in-Block t c =
    let at = c.in_err-stmts-in-Block.field-0.0 in
    let block = c.in-Block.is ∙ ap Block (sym c.as_slice.ensures) in
    stopped c.from_residual-in_err-stmts-in-Block.result _ _ _ c.from_residual-in_err-stmts-in-Block.ensures.1
    (subst (λ z. StopsAt (stmt_breaches c.args.context.now.setting.now c.args.context.now.scope.now (stmt_of z)) at) (sym block) (block-stops c.args.context.now.setting.now c.args.context.now.scope.now c.as_slice.result.now at c.in_err-stmts-in-Block.ensures.1.1))

pub stmt-returns : goal.stmt-returns
stmt-returns t c =
    let s = c.args.context.now.setting.now in
    let scope = c.args.context.now.scope.now in
    let old = c.args.maker.now.body in
    let first = c.args.maker.now.next in
    elim c.match-stmt.branch [
      | stmt-in-Skip w ↦ added-ok s scope c.args.stmt.now old c.match-stmt.maker.body first c.match-stmt.maker.next (stmt-is s scope _ Skip old old _ first first _ w.in-Skip.is (ap (λ m. m.body) w.maker-is) (ap (λ m. m.next) w.maker-is) (skip-added s scope old old first))
      | stmt-in-Charge+in_ok-charge-in-Charge w ↦ added-ok s scope c.args.stmt.now old c.match-stmt.maker.body first c.match-stmt.maker.next (stmt-is s scope _ (Charge _) old _ _ first first _ w.in-Charge.is (ap (λ m. m.body) w.maker-is) (ap (λ m. m.next) w.maker-is)
          (charge-added s scope old _ first _ w.in_ok-charge-in-Charge.ensures.0 w.in_ok-charge-in-Charge.ensures.1.0))
      | stmt-in-Call+in_ok-call-in-Call w ↦ added-ok s scope c.args.stmt.now old c.match-stmt.maker.body first c.match-stmt.maker.next (stmt-is s scope _ (Call _ _) old _ _ first _ _ w.in-Call.is (ap (λ m. m.body) w.maker-is) (ap (λ m. m.next) w.maker-is) w.in_ok-call-in-Call.ensures.1.0)
      | stmt-in-Block+in_ok-stmts-in-Block w ↦ added-ok s scope c.args.stmt.now old c.match-stmt.maker.body first c.match-stmt.maker.next (stmt-is s scope _ (Block _) old _ _ first _ _ (w.in-Block.is ∙ ap Block (sym w.as_slice.ensures)) (ap (λ m. m.body) w.maker-is) (ap (λ m. m.next) w.maker-is) (block-added s scope old _ first _ _ w.in_ok-stmts-in-Block.ensures.1.0))
      | stmt-in-Case+in_ok-case-in-Case w ↦ added-ok s scope c.args.stmt.now old c.match-stmt.maker.body first c.match-stmt.maker.next (stmt-is s scope _ (Case _ _) old _ _ first _ _ (w.in-Case.is ∙ ap (Case _) (sym w.as_slice-in-Case.ensures)) (ap (λ m. m.body) w.maker-is) (ap (λ m. m.next) w.maker-is) w.in_ok-case-in-Case.ensures.1.0)
      | stmt-in-Forall+in_ok-walk-in-Forall w ↦ added-ok s scope c.args.stmt.now old c.match-stmt.maker.body first c.match-stmt.maker.next (stmt-is s scope _ (Forall _ _ _) old _ _ first _ _ (w.in-Forall.is ∙ ap (Forall _ _) (sym w.get.ensures)) (ap (λ m. m.body) w.maker-is) (ap (λ m. m.next) w.maker-is) w.in_ok-walk-in-Forall.ensures.1.0)
    ]

pub stmts-loop-one-preserved : goal.stmts-loop-one-preserved
stmts-loop-one-preserved t c =
    let s = c.args.context.now.setting.now in
    let so = at-stmt s c.args.context.now.scope.now c.args.stmts.now c.args.maker.now.body c.args.maker.now.next c.loop-one.one-index c.one-item.result c.loop-one.maker.body c.loop-one.maker.next c.loop-one.invariant c.loop-one-test.true c.one-item.is in
    so_far-more s c.args.context.now.scope.now c.args.stmts.now c.args.maker.now.body c.args.maker.now.next c.one-item.result _ c.loop-one.maker.body c.stmt.new.maker.body c.loop-one.maker.next c.stmt.new.maker.next c.args.context.now.measures so c.in_ok-stmt.ensures.1.0

pub stmts-returns : goal.stmts-returns
stmts-returns t c =
    let added =
    so_far-all c.args.context.now.setting.now c.args.context.now.scope.now c.args.stmts.now c.args.maker.now.body c.args.maker.now.next c.loop-one.one-index c.loop-one.maker.body c.loop-one.maker.next c.loop-one.invariant c.loop-one-test.false in
    (added.unbroken, (added, tt))

pub walk-returns-in_err-there : goal.walk-returns-in_err-there
walk-returns-in_err-there t c =
    stopped c.from_residual.result _ _ _ c.from_residual.ensures.1 (walk-variable_stops c.args.context.now.setting.now c.args.context.now.scope.now c.args.var.now c.args.source.now c.args.each.now _ c.in_err-there.ensures.stops)

pub walk-stmt-requires : goal.walk-stmt-requires
walk-stmt-requires t c =
    let room = walk-room c.args.var.now c.args.source.now c.args.each.now c.args.maker.now.body.own c.args.maker.now.next c.requires.room in
    (search (rules, the_lemmas), (subst (λ m. HasRoom (stmt_statements (stmt_of c.args.each.now)) m.body.own m.next) (sym c.new-made.ensures) room))

pub walk-returns-in_err-stmt : goal.walk-returns-in_err-stmt
walk-returns-in_err-stmt t c =
    let s = c.args.context.now.setting.now in
    let scope = c.as_slice.ensures ∙ c.in_ok-inner.ensures in
    stopped c.from_residual-in_err-stmt.result _ _ _ c.from_residual-in_err-stmt.ensures.1
    (walk-stops s c.args.context.now.scope.now c.args.maker.now.body c.args.maker.now.body c.args.maker.now.next c.args.var.now c.args.source.now c.args.each.now c.in_ok-there.there _ c.in_ok-there.ensures.ok
    (subst (λ z. StopsAt (stmt_breaches s z (stmt_of c.args.each.now)) c.in_err-stmt.field-0.0) scope c.in_err-stmt.ensures.1.1))

pub walk-take_site-body_site-requires : goal.walk-take_site-body_site-requires
walk-take_site-body_site-requires t c =
    omega (arith, walk-site c.args.var.now c.args.source.now c.args.each.now c.args.maker.now.body.own c.args.maker.now.next c.stmt.new.maker.next c.requires.room (c.in_ok-stmt.ensures.1.0.numbered ∙ ap (λ m. m.next + stmt_sites (stmt_of c.args.each.now)) c.new-made.ensures))

pub walk-take_site-walk_site-requires : goal.walk-take_site-walk_site-requires
walk-take_site-walk_site-requires t c =
    omega (arith, c.take_site-body_site.ensures.left, walk-site c.args.var.now c.args.source.now c.args.each.now c.args.maker.now.body.own c.args.maker.now.next c.stmt.new.maker.next c.requires.room (c.in_ok-stmt.ensures.1.0.numbered ∙ ap (λ m. m.next + stmt_sites (stmt_of c.args.each.now)) c.new-made.ensures))

pub walk-returns : goal.walk-returns
walk-returns t c =
    let s = c.args.context.now.setting.now in
    let here = subst (λ m. IsStmtAdded s c.as_slice.result.now c.args.each.now m.body c.stmt.new.maker.body m.next c.stmt.new.maker.next) c.new-made.ensures c.in_ok-stmt.ensures.1.0 in
    let added =
    let s = c.args.context.now.setting.now in
    let scope = c.as_slice.ensures ∙ c.in_ok-inner.ensures in
    let body_left = c.take_site-body_site.ensures in
    let left = c.take_site-walk_site.ensures in
    walk-added s c.args.context.now.scope.now c.args.maker.now.body c.push_item.new.body c.args.maker.now.next c.args.var.now c.args.source.now c.args.each.now c.in_ok-there.there no_body c.stmt.new.maker.body c.stmt.new.maker.next
    c.in_ok-there.ensures.ok refl (subst (λ z. IsStmtAdded s z c.args.each.now no_body c.stmt.new.maker.body c.args.maker.now.next c.stmt.new.maker.next) scope here)
    c.take_site-body_site.result c.take_site-walk_site.result c.take_site-walk_site.new.next body_left.taken (left.taken ∙ body_left.left) (omega (arith, left.left, body_left.left)) c.in_ok-push_item.ensures in
    (added.unbroken, (added, tt))
