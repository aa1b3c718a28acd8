use Rattle.std.proofs.Common.{◌∙◌, ap, length, arith}
use Rattle.luo_model.specs.View.{Held, plain_of}
use Rattle.luo_engine.proofs.LayoutLemmas.{ranks_more, ranks_all}
use Rattle.luo_engine.proofs.layout.ranks_of.Goals as goal

pub loop-x-preserved : goal.loop-x-preserved
loop-x-preserved c = ranks_more (plain_of c.args.ranks.now) c.loop-x.copied c.push.new.self c.loop-x.x c.node_rank.result c.loop-x.invariant c.in_ok-push.ensures.ok c.node_rank.ensures

pub returns-clause-ranked : goal.returns-clause-ranked
returns-clause-ranked c =
    let long = ap (λ (h : Held). length h.nodes) (c.program.view_is ∙ c.program-program.ensures.same) in
    ranks_all (plain_of c.args.ranks.now) c.loop-x.copied c.loop-x.x c.loop-x.invariant (omega (arith, c.loop-x-test.false, c.loop-x.auto.x-end, c.len-x-end.ensures, long))
