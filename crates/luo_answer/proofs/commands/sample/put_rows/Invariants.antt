use Rattle.std.proofs.Common.{◌≡◌, ◌++◌, drop}
use Rattle.luo_model.specs.View.{plain_of}
use Rattle.luo_answer.specs.Commands.Sample.{row_lines}
use Rattle.luo_answer.proofs.commands.sample.put_rows.Given as goal

abbrev pub invariant-loop-i : goal.invariant-loop-i
invariant-loop-i l =
    l.text.items ++ row_lines (plain_of l.program) (drop l.i l.program.analyses) (drop l.i l.rows) ≡ l.fn.text.items ++ row_lines (plain_of l.program) l.program.analyses l.rows
