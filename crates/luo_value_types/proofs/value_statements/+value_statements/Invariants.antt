use Rattle.std.proofs.Common.{drop}
use Rattle.luo_value_types.specs.inner.Lists.{parts_statements, arms_statements}
use Rattle.luo_value_types.proofs.StatementLemmas.{CountedSoFar}
use Rattle.luo_value_types.proofs.value_statements.+value_statements.Given as goal

abbrev pub invariant-count_parts-loop-part : goal.invariant-count_parts-loop-part
invariant-count_parts-loop-part l = CountedSoFar (parts_statements l.parts) l.sum (parts_statements (drop l.part-index l.parts))

abbrev pub invariant-count_arms-loop-arm : goal.invariant-count_arms-loop-arm
invariant-count_arms-loop-arm l = CountedSoFar (arms_statements l.arms) l.sum (arms_statements (drop l.arm-index l.arms))
