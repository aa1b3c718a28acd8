use Rattle.std.proofs.Common.{◌≡◌, ◌+◌, ◌<◌, ◌≤◌, arith}
use Rattle.luo_model.specs.View.{plain_of}
use Rattle.luo_struct.specs.View.{tree_of}
use Rattle.luo_rank.proofs.HalvingLemmas.{some_count, within_all, within_one}
use Rattle.luo_rank.proofs.ranker.Ranker.rank_of.Goals as goal

pub loop-span-init : goal.loop-span-init
loop-span-init c =
    let r = c.args.self.now in
    let p = plain_of r.program in
    let s = tree_of c.args.s.now in
    (some_count p r.node r.size c.count-high.result s c.count-high.ensures.count c.requires, omega (arith, c.count-high.ensures.same), within_all p r.node r.size c.count-high.result s c.count-high.ensures.count)

pub loop-span-preserved : goal.loop-span-preserved
loop-span-preserved c = (c.in_ok-next.ensures.some, omega (arith, c.in_ok-next.ensures.inside, c.loop-span.invariant.1), c.in_ok-next.ensures.kept c.loop-span.invariant.2)

pub returns : goal.returns
returns c =
    let r = c.args.self.now in
    within_one (plain_of r.program) r.node r.size c.count-high.result (tree_of c.args.s.now) c.loop-span.span.low c.loop-span.span.high c.count-high.ensures.count c.requires (omega (arith, c.loop-span-test.false)) c.loop-span.invariant.2
