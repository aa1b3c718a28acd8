use Rattle.luo_value_types.proofs.StatementLemmas.{parts_counted, arms_counted, count_tuple, count_branch, count_case}
use Rattle.luo_value_types.proofs.value_statements.+value_statements.Goals as goal

pub count_arms-returns : goal.count_arms-returns
count_arms-returns t c = arms_counted c.args.arms.now c.loop-arm.arm-index c.loop-arm.sum c.loop-arm-test.false c.loop-arm.invariant

pub count_parts-returns : goal.count_parts-returns
count_parts-returns t c = parts_counted c.args.parts.now c.loop-part.part-index c.loop-part.sum c.loop-part-test.false c.loop-part.invariant

pub count_statements-returns-in-Tuple : goal.count_statements-returns-in-Tuple
count_statements-returns-in-Tuple t c = count_tuple c.args.value.now _ _ _ c.count_parts.result c.in-Tuple.is c.as_slice.ensures c.count_parts.ensures

pub count_statements-returns-in-Branch : goal.count_statements-returns-in-Branch
count_statements-returns-in-Branch t c = count_branch c.args.value.now _ _ _ _ c.count_statements.result c.in-Branch.is c.get.ensures c.count_statements.ensures

pub count_statements-returns-in-Case : goal.count_statements-returns-in-Case
count_statements-returns-in-Case t c = count_case c.args.value.now _ _ _ c.count_arms.result c.marked_add.result c.in-Case.is c.as_slice-in-Case.ensures c.count_arms.ensures c.marked_add.ensures
