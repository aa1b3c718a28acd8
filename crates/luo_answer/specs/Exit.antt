-- The exit status of a program.
use Rattle.std.specs.Prelude.{ℕ}
use Rattle.luo_answer.specs.declared.status.Status.{Status}
use Rattle.luo_answer.specs.declared.status.Status.TheVariants.{Done, Usage, Refused, Limit, Overflow, ReadFault, WriteFault, NoMemory}

abbrev pub exit_code : Status → ℕ
exit_code Done = 0
exit_code Usage = 2
exit_code Refused = 3
exit_code Limit = 4
exit_code Overflow = 5
exit_code ReadFault = 6
exit_code WriteFault = 7
exit_code NoMemory = 8
