use Rattle.luo_model.specs.View.{plain_of}
use Rattle.luo_answer.proofs.RowLemmas.{rows-step}
use Rattle.luo_answer.proofs.rows.rows_of.Goals as goal

pub loop-n-preserved : goal.loop-n-preserved
loop-n-preserved c = rows-step (plain_of c.args.program.now) c.args.f c.loop-n.n c.loop-n.rows c.push.new.self c.row_at.result c.loop-n.invariant c.row_at.ensures.size c.row_at.ensures.right c.in_ok-push.ensures.ok
