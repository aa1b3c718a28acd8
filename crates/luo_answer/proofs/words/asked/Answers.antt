use Rattle.luo_answer.specs.Words.{texts}
use Rattle.luo_answer.proofs.AskedLemmas.{asks_of}
use Rattle.luo_answer.proofs.words.asked.Goals as goal

pub returns-in-Some : goal.returns-in-Some
returns-in-Some c = asks_of (texts c.args.words.now) c.in-Some.request c.within.result c.in-Some.ensures c.within.ensures
