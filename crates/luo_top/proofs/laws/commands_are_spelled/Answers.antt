use Rattle.luo_answer.specs.Words.{Analyse, Format, Run, Sample, Listing, Audit}
use Rattle.luo_answer.proofs.CommandWords.{command_spelled, spelled_command}
use Rattle.luo_answer.proofs.NumberWords.{number_word, word_number}
use Rattle.luo_top.proofs.laws.commands_are_spelled.Goals as goal

pub returns-clause-analyse : goal.returns-clause-analyse
returns-clause-analyse c = λ words file n. (command_spelled words (Analyse file n), spelled_command words (Analyse file n))

pub returns-clause-format : goal.returns-clause-format
returns-clause-format c = λ words file. (command_spelled words (Format file), spelled_command words (Format file))

pub returns-clause-run : goal.returns-clause-run
returns-clause-run c = λ words file procedure structure. (command_spelled words (Run file procedure structure), spelled_command words (Run file procedure structure))

pub returns-clause-sample : goal.returns-clause-sample
returns-clause-sample c = λ words number n. (command_spelled words (Sample number n), spelled_command words (Sample number n))

pub returns-clause-list : goal.returns-clause-list
returns-clause-list c = λ words file name n start count. (command_spelled words (Listing file name n start count), spelled_command words (Listing file name n start count))

pub returns-clause-audit : goal.returns-clause-audit
returns-clause-audit c = λ words file n w. (command_spelled words (Audit file n w), spelled_command words (Audit file n w))

pub returns-clause-numbers : goal.returns-clause-numbers
returns-clause-numbers c = λ word n. (word_number word n, number_word word n)
