use Rattle.std.proofs.Common.{Some}
use Rattle.luo_model.specs.Scopes.Stands.{stands}
use Rattle.luo_rules.specs.Settings.{shape_at}
use Rattle.luo_value_types.proofs.ArmsSoFar.{ArmsSoFar}
use Rattle.luo_value_types.proofs.ValuesSoFar.{PartsSoFar}
use Rattle.luo_value_types.proofs.values.+values.Given as goal

abbrev pub invariant-all_parts-loop-i : goal.invariant-all_parts-loop-i
invariant-all_parts-loop-i l = PartsSoFar l.context.setting.now l.context.scope.now l.factors l.parts l.i l.made l.initial.maker.body l.maker.body l.initial.maker.next l.maker.next

abbrev pub invariant-all_arms-loop-i : goal.invariant-all_arms-loop-i
invariant-all_arms-loop-i l = ArmsSoFar l.context.setting.now (stands l.subject.on (shape_at l.context.setting.now l.subject.on.node)) (Some l.subject.expected) l.subject.var.now l.arms l.i l.values l.bodies l.initial.next l.next
