use Rattle.std.proofs.Common.{refl, arith, IsTrue, false}
use Rattle.luo_founded.specs.inner.Marks.{ComponentAt}
use Rattle.luo_founded.proofs.FoundLemmas.{none_yet, first_is_least, component_at, no_component_at, no_component}
use Rattle.luo_founded.proofs.checking.first_empty.Goals as goal

pub returns-then-has_empty_component : goal.returns-then-has_empty_component
returns-then-has_empty_component c = first_is_least (ComponentAt c.args.nodes.now c.args.zero.now) c.loop-x.x c.loop-x.invariant
    (component_at c.args.nodes.now c.args.zero.now c.loop-x.x c.index-nodes-x.result c.loop-x-test.true c.index-nodes-x.is (c.if-has_empty_component.ensures.0 refl))

pub loop-x-preserved : goal.loop-x-preserved
loop-x-preserved c = none_yet (ComponentAt c.args.nodes.now c.args.zero.now) c.loop-x.x c.loop-x.invariant
    (no_component_at c.args.nodes.now c.args.zero.now c.loop-x.x c.index-nodes-x.result c.loop-x-test.true c.index-nodes-x.is (λ m. let t : IsTrue false = c.if-has_empty_component.ensures.1 m in cc))

pub returns : goal.returns
returns c = no_component c.args.nodes.now c.args.zero.now c.loop-x.x (omega (arith, c.loop-x-test.false)) c.loop-x.invariant
