use Rattle.std.proofs.Common.{arith}
use Rattle.luo_model.specs.View.{plain_of}
use Rattle.luo_engine.proofs.WalkTables.{made_more, walks_start}
use Rattle.luo_engine.proofs.walk_tables.walks_of.Goals as goal

pub loop-i-preserved : goal.loop-i-preserved
loop-i-preserved c =
    made_more (plain_of c.args.plan.now.program) c.args.sites.now.tasks c.args.tables.now c.loop-i.walks.items c.push.new.self.items c.loop-i.i c.in_ok-table.table c.loop-i.invariant c.in_ok-push.ensures.items c.in_ok-table.ensures

pub returns : goal.returns
returns c = walks_start c.args.plan.now c.args.sites.now c.requires.fixed c.args.tables.now c.requires.tables c.loop-i.walks.items c.loop-i.i c.loop-i.invariant (omega (arith, c.loop-i-test.false, c.len-i-end.ensures))
