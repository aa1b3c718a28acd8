use Rattle.luo_syntax.proofs.Nexts.{next_past}
use Rattle.luo_syntax.proofs.NamesSoFar.{names_more}
use Rattle.luo_syntax.proofs.cursor.Cursor.names.Goals as goal

pub names-preserved : goal.names-preserved
names-preserved c = names_more c.names.invariant c.in_ok-name.ensures.reads (next_past c.if-take_mark.ensures c.in_ok-expect_mark.ensures.reads) c.in_ok-push.ensures.ok
