use Rattle.std.proofs.Common.{ℕ, List, length, sym, subst, arith}
use Rattle.luo_rank.specs.inner.Lookup.{AreAllRests}
use Rattle.luo_rank.proofs.MadeLemmas.{rests_none, rests_more, rests_all}
use Rattle.luo_rank.proofs.rests.all_rests.Goals as goal

pub loop-x-init : goal.loop-x-init
loop-x-init c = subst (λ (r : List (List (List ℕ))). AreAllRests c.args.tables.now 0 r) (sym c.new-rests.ensures) (rests_none c.args.tables.now)

pub loop-x-preserved : goal.loop-x-preserved
loop-x-preserved c = rests_more c.args.tables.now c.loop-x.x c.in_ok-rows.rows c.loop-x.rests c.push.new.self c.loop-x.invariant c.in_ok-push.ensures.ok c.in_ok-rows.ensures

pub returns : goal.returns
returns c = rests_all c.args.tables.now c.loop-x.x (length c.args.tables.now.program.nodes) c.loop-x.rests (omega (arith, c.loop-x-test.false, c.loop-x.auto.x-end, c.nodes-x-end.ensures)) c.loop-x.invariant
