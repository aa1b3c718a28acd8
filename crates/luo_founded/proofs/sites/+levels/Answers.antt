use Rattle.luo_founded.proofs.LevelLoops.{items_end, arms_end, case_put, walk_put}
use Rattle.luo_founded.proofs.sites.+levels.Goals as goal

pub push_arms-returns : goal.push_arms-returns
push_arms-returns t c = arms_end c.args.wholes.now c.args.arms.now c.args.levels.now c.loop-arm.arm-index c.loop-arm.levels c.loop-arm-test.false c.loop-arm.invariant

pub push_items-returns : goal.push_items-returns
push_items-returns t c = items_end c.args.wholes.now c.args.items.now c.args.levels.now c.loop-item.item-index c.loop-item.levels c.loop-item-test.false c.loop-item.invariant

pub push_item-returns-in_ok-push-in-Case : goal.push_item-returns-in_ok-push-in-Case
push_item-returns-in_ok-push-in-Case t c =
    case_put c.args.wholes.now c.args.item.now _ c.in-Case.arms c.as_slice.result.now _ c.args.levels.now c.push_arms.new.levels c.push-in-Case.new.self c.in-Case.is c.as_slice.ensures c.in_ok-push_arms-in-Case.ensures c.in_ok-push-in-Case.ensures.ok

pub push_item-returns-in_ok-push-in-Forall : goal.push_item-returns-in_ok-push-in-Forall
push_item-returns-in_ok-push-in-Forall t c =
    walk_put c.args.wholes.now c.args.item.now _ c.in-Forall.body _ _ c.args.levels.now c.push_body.new.levels c.push-in-Forall.new.self c.in-Forall.is c.in_ok-push_body-in-Forall.ensures c.in_ok-push-in-Forall.ensures.ok
