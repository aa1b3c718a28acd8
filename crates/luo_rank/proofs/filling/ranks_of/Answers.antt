use Rattle.std.proofs.Common.{ℕ, List, sym, subst, arith}
use Rattle.luo_model.specs.View.{plain_of}
use Rattle.luo_rank.specs.inner.Lookup.{IsRankRow}
use Rattle.luo_rank.proofs.FillLemmas.{ranks_none, ranks_more, ranks_all}
use Rattle.luo_rank.proofs.filling.ranks_of.Goals as goal

pub loop-x-init : goal.loop-x-init
loop-x-init c = subst (λ (r : List ℕ). IsRankRow (plain_of c.args.ranks.now) 0 r) (sym c.new-row.ensures) (ranks_none (plain_of c.args.ranks.now))

pub loop-x-preserved : goal.loop-x-preserved
loop-x-preserved c = ranks_more (plain_of c.args.ranks.now) c.loop-x.x c.node_rank-rank.result c.loop-x.row c.push.new.self c.loop-x.invariant c.in_ok-push.ensures.ok c.node_rank-rank.ensures

pub returns : goal.returns
returns c = ranks_all (plain_of c.args.ranks.now) c.loop-x.x c.args.nodes c.loop-x.row (omega (arith, c.loop-x-test.false, c.loop-x.auto.x-end)) c.loop-x.invariant
