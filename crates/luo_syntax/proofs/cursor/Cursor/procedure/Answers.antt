use Rattle.luo_syntax.proofs.ProcSteps.{proc_shorter}
use Rattle.luo_syntax.proofs.ProcStuck.{reads_proc}
use Rattle.luo_syntax.proofs.cursor.Cursor.procedure.Goals as goal

pub returns-clause-shorter : goal.returns-clause-shorter
returns-clause-shorter c = proc_shorter (reads_proc c.in_ok-expect_word.ensures.reads c.in_ok-name.ensures.reads c.in_ok-param.ensures.reads c.in_ok-body.ensures.reads)
