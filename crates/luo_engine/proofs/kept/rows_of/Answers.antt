use Rattle.luo_model.specs.View.{plain_of}
use Rattle.luo_engine.proofs.inner.KeptLemmas.{rows_more}
use Rattle.luo_engine.proofs.kept.rows_of.Goals as goal

pub loop-n-preserved : goal.loop-n-preserved
loop-n-preserved c =
    rows_more (plain_of c.args.engine.now.program) c.args.nodes c.loop-n.n c.in_ok-row_of.field-0 c.loop-n.rows c.push.new.self
    c.loop-n.invariant c.in_ok-push.ensures.ok c.in_ok-row_of.ensures
