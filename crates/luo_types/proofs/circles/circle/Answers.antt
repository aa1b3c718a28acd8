use Rattle.std.proofs.Common.{sym}
use Rattle.luo_types.proofs.CircleLemmas.{goes_on}
use Rattle.luo_types.proofs.circles.circle.Goals as goal

pub loop-steps-preserved : goal.loop-steps-preserved
loop-steps-preserved c =
    goes_on c.args.names.now c.args.defs.now c.args.home c.loop-steps.way _ _ c.loop-steps.steps c.loop-steps.at c.in-Some.named
    c.loop-steps.invariant c.loop-steps-test.true (sym c.in-Some.ensures) c.if-named-home.false c.in_ok-name_of-2.ensures c.in_ok-push-2.ensures.ok
