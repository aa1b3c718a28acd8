use Rattle.luo_answer.specs.declared.words.TheConstants.{NUMBER_CAP}
use Rattle.luo_answer.proofs.Digits.{ReadsTo}
use Rattle.luo_answer.proofs.words.digits.Given as goal

abbrev pub invariant-loop-digit : goal.invariant-loop-digit
invariant-loop-digit l = ReadsTo l.word l.digit-index l.value NUMBER_CAP
