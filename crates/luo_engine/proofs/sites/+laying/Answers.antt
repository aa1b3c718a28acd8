use Rattle.luo_model.specs.View.{plain_of}
use Rattle.luo_engine.proofs.LayLoops.{items_next, items_end, arms_next, arms_end, case_laid, walk_laid}
use Rattle.luo_engine.proofs.sites.+laying.Goals as goal

pub lay_arms-loop-arm-preserved : goal.lay_arms-loop-arm-preserved
lay_arms-loop-arm-preserved t c = arms_next (plain_of c.args.program.now) c.args.starts.now c.args.arms.now c.args.laid.now c.loop-arm.arm-index c.arm-item.result c.as_slice.result.now c.loop-arm.laid c.lay_items.new.laid c.loop-arm-test.true c.arm-item.is c.as_slice.ensures c.in_ok-lay_items.ensures c.loop-arm.invariant

pub lay_arms-returns : goal.lay_arms-returns
lay_arms-returns t c = arms_end (plain_of c.args.program.now) c.args.starts.now c.args.arms.now c.args.laid.now c.loop-arm.arm-index c.loop-arm.laid c.loop-arm-test.false c.loop-arm.invariant

pub lay_items-loop-item-preserved : goal.lay_items-loop-item-preserved
lay_items-loop-item-preserved t c = items_next (plain_of c.args.program.now) c.args.starts.now c.args.items.now c.args.laid.now c.loop-item.item-index c.item-item.result c.loop-item.laid c.lay_item.new.laid c.loop-item-test.true c.item-item.is c.in_ok-lay_item.ensures c.loop-item.invariant

pub lay_items-returns : goal.lay_items-returns
lay_items-returns t c = items_end (plain_of c.args.program.now) c.args.starts.now c.args.items.now c.args.laid.now c.loop-item.item-index c.loop-item.laid c.loop-item-test.false c.loop-item.invariant

pub lay_item-returns-in_ok-lay_case-in-Case : goal.lay_item-returns-in_ok-lay_case-in-Case
lay_item-returns-in_ok-lay_case-in-Case t c = case_laid (plain_of c.args.program.now) c.args.starts.now c.args.item.now c.in-Case.var c.in-Case.arms c.as_slice.result.now c.as_slice-in-Case.result.now c.in-Case.site c.args.laid.now c.lay_arms.new.laid c.lay_case.new.laid c.in-Case.is c.as_slice.ensures c.as_slice-in-Case.ensures c.in_ok-lay_arms-in-Case.ensures c.in_ok-lay_case-in-Case.ensures

pub lay_item-returns-in_ok-lay_walk-in-Forall : goal.lay_item-returns-in_ok-lay_walk-in-Forall
lay_item-returns-in_ok-lay_walk-in-Forall t c = walk_laid (plain_of c.args.program.now) c.args.starts.now c.args.item.now c.in-Forall.var c.in-Forall.body c.in-Forall.body_site c.in-Forall.site c.as_slice-in-Forall.result.now c.args.laid.now c.lay_items.new.laid c.lay_body.new.laid c.lay_walk.new.laid c.in-Forall.is c.as_slice-in-Forall.ensures c.in_ok-lay_items-in-Forall.ensures c.in_ok-lay_body-in-Forall.ensures c.in_ok-lay_walk-in-Forall.ensures
