use Rattle.std.proofs.Common.{arith}
use Rattle.luo_model.specs.View.{plain_of}
use Rattle.luo_engine.proofs.PushLemmas.{union_more, union_end}
use Rattle.luo_engine.proofs.scopes.push_union.Goals as goal

pub loop-b-preserved : goal.loop-b-preserved
loop-b-preserved c = union_more (plain_of c.args.program.now) c.args.starts.now c.args.links.now c.loop-b.links c.push_scope.new.links c.loop-b.scopes c.push.new.self c.in_ok-scope.scope c.args.arms.now c.args.parts.now c.loop-b.b c.index-arms-b.result _ c.index-arms-b.is (omega (arith, c.loop-b-test.true, c.min-width.ensures)) (omega (arith, c.loop-b-test.true, c.min-width.ensures)) c.loop-b.invariant c.in_ok-scope.ensures c.in_ok-push.ensures.ok

pub returns : goal.returns
returns c = union_end (plain_of c.args.program.now) c.args.starts.now c.args.links.now c.loop-b.links c.loop-b.scopes c.args.arms.now c.args.parts.now c.min-width.result c.loop-b.b c.min-width.ensures c.loop-b-test.false c.loop-b.invariant
