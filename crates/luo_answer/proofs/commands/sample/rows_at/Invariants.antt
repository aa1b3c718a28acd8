use Rattle.std.proofs.Common.{take}
use Rattle.luo_model.specs.View.{plain_of}
use Rattle.luo_answer.specs.Commands.Sample.{AreRowsAt}
use Rattle.luo_answer.proofs.commands.sample.rows_at.Given as goal

abbrev pub invariant-loop-f : goal.invariant-loop-f
invariant-loop-f l = AreRowsAt (plain_of l.program) l.n (take l.f-index l.f-items) l.rows
