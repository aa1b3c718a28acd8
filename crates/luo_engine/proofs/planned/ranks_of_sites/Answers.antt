use Rattle.std.proofs.Common.{arith}
use Rattle.luo_engine.proofs.SitesMade.{ranks_more, node_within}
use Rattle.luo_engine.proofs.planned.ranks_of_sites.Goals as goal

pub node_rank-requires : goal.node_rank-requires
node_rank-requires c = record { there = node_within c.args.ranks.now c.args.plan.now.program c.loop-i.i c.node_of.result c.requires.same c.width-i-end.ensures.plan.proper (omega (arith, c.loop-i-test.true, c.loop-i.auto.i-end, c.width-i-end.ensures.width)) c.node_of.ensures }

pub loop-i-preserved : goal.loop-i-preserved
loop-i-preserved c = ranks_more c.args.ranks.now c.args.plan.now.program c.loop-i.copied c.push.new.self c.loop-i.i c.node_of.result c.node_rank.result c.requires.same c.loop-i.invariant c.in_ok-push.ensures.ok c.node_of.ensures c.node_rank.ensures
