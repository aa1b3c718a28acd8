use Rattle.std.proofs.Common.{ℕ, List, length, sym, subst, arith}
use Rattle.luo_rank.specs.inner.Lookup.{AreAllPlanes}
use Rattle.luo_rank.proofs.MadeLemmas.{nodes_none, nodes_more, nodes_all}
use Rattle.luo_rank.proofs.filling.all_planes.Goals as goal

pub loop-x-init : goal.loop-x-init
loop-x-init c = subst (λ (r : List (List (List (List ℕ)))). AreAllPlanes c.args.tables.now 0 r) (sym c.new-all.ensures) (nodes_none c.args.tables.now)

pub loop-x-preserved : goal.loop-x-preserved
loop-x-preserved c = nodes_more c.args.tables.now c.loop-x.x c.in_ok-planes.planes c.loop-x.all c.push.new.self c.loop-x.invariant c.in_ok-push.ensures.ok c.in_ok-planes.ensures

pub returns : goal.returns
returns c = nodes_all c.args.tables.now c.loop-x.x (length c.args.tables.now.program.nodes) c.loop-x.all (omega (arith, c.loop-x-test.false, c.loop-x.auto.x-end, c.nodes-x-end.ensures)) c.loop-x.invariant
