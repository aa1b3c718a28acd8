use Rattle.std.proofs.Common.{sym, subst}
use Rattle.luo_answer.specs.Answer.{Output, Refusal}
use Rattle.luo_answer.specs.Words.{texts}
use Rattle.luo_top.specs.AsWritten.Outcome.{OutcomeAsWritten}
use Rattle.luo_top.specs.Sure.{everywhere}
use Rattle.luo_top.proofs.SureRun.{no_rise, output, refusal, too_long}
use Rattle.luo_top.proofs.laws.sure.luo_sure.Goals as goal

pub returns-clause-output : goal.returns-clause-output
returns-clause-output g c = λ bytes outcome. output _ _ c.luo.ensures (λ file. no_rise) no_rise bytes (subst (λ t. OutcomeAsWritten (everywhere t) (texts c.args.words.now) (Output bytes)) (sym c.new-files.ensures.text) outcome)

pub returns-clause-refusal : goal.returns-clause-refusal
returns-clause-refusal g c = λ status bytes outcome. refusal _ _ c.luo.ensures (λ file. no_rise) no_rise status bytes (subst (λ t. OutcomeAsWritten (everywhere t) (texts c.args.words.now) (Refusal status bytes)) (sym c.new-files.ensures.text) outcome)

pub returns-clause-long : goal.returns-clause-long
returns-clause-long g c = too_long (texts c.args.words.now) c.args.text.items
