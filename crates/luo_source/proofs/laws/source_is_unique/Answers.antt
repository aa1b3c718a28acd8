use Rattle.luo_source.proofs.OneProgram.{program_one}
use Rattle.luo_source.proofs.laws.source_is_unique.Goals as goal

pub returns : goal.returns
returns c = λ text tokens one two p q. program_one p q
