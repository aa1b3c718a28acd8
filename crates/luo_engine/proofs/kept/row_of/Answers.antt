use Rattle.luo_model.specs.View.{plain_of}
use Rattle.luo_engine.proofs.inner.KeptLemmas.{row_more}
use Rattle.luo_engine.proofs.kept.row_of.Goals as goal

pub loop-x-preserved : goal.loop-x-preserved
loop-x-preserved c =
    row_more (plain_of c.args.engine.now.program) c.loop-x.x c.args.n c.small_count.result c.loop-x.row c.push.new.self
    c.loop-x.invariant c.in_ok-push.ensures.ok c.small_count.ensures.count c.small_count.ensures.small
