use Rattle.std.proofs.Common.{drop}
use Rattle.luo_model.specs.Scopes.Stands.{stands}
use Rattle.luo_rules.specs.Settings.{shape_at}
use Rattle.luo_types.proofs.ArmsSoFar.{ArmsSoFar}
use Rattle.luo_types.proofs.StatementsSoFar.{StmtsSoFar}
use Rattle.luo_types.proofs.statements.+statements.Given as goal

abbrev pub invariant-stmts-loop-one : goal.invariant-stmts-loop-one
invariant-stmts-loop-one l = StmtsSoFar l.context.setting.now l.context.scope.now l.stmts (drop l.one-index l.stmts) l.initial.maker.body l.maker.body l.initial.maker.next l.maker.next

abbrev pub invariant-arms-loop-place : goal.invariant-arms-loop-place
invariant-arms-loop-place l =
    let all = stands l.on (shape_at l.context.setting.now l.on.node) in
    ArmsSoFar l.context.setting.now all (drop l.place all) l.var l.arms (drop l.place l.arms) l.made l.initial.next l.next
