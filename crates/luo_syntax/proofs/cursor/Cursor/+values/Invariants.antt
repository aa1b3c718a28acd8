use Rattle.std.proofs.Common.{length, ◌+◌, ◌*◌}
use Rattle.luo_syntax.proofs.ValuesSoFar.{PartsSoFar, ArmsSoFar}
use Rattle.luo_syntax.proofs.cursor.Cursor.+values.Given as goal

abbrev pub decreases-value : goal.decreases-value
decreases-value l = 4 * length l.self.now + 1

abbrev pub decreases-numbered : goal.decreases-numbered
decreases-numbered l = 4 * length l.self.now

abbrev pub decreases-inner_value : goal.decreases-inner_value
decreases-inner_value l = 4 * length l.self.now

abbrev pub decreases-bracketed : goal.decreases-bracketed
decreases-bracketed l = 4 * length l.self.now

abbrev pub decreases-tuple : goal.decreases-tuple
decreases-tuple l = 4 * length l.self.now

abbrev pub decreases-parts : goal.decreases-parts
decreases-parts l = 4 * length l.self.now + 2

abbrev pub decreases-value_case : goal.decreases-value_case
decreases-value_case l = 4 * length l.self.now

abbrev pub decreases-value_arms : goal.decreases-value_arms
decreases-value_arms l = 4 * length l.self.now + 1

abbrev pub decreases-value_arm : goal.decreases-value_arm
decreases-value_arm l = 4 * length l.self.now

abbrev pub invariant-parts-parts : goal.invariant-parts-parts
invariant-parts-parts l = PartsSoFar l.initial.self l.self l.fn.first l.parts

abbrev pub decreases-parts-parts : goal.decreases-parts-parts
decreases-parts-parts l = length l.self

abbrev pub invariant-value_arms-arms : goal.invariant-value_arms-arms
invariant-value_arms-arms l = ArmsSoFar l.initial.self l.self l.arms

abbrev pub decreases-value_arms-arms : goal.decreases-value_arms-arms
decreases-value_arms-arms l = length l.self
