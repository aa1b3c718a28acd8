use Rattle.luo_syntax.proofs.SourceOrError.{source_or_error, never_both}
use Rattle.luo_syntax.proofs.laws.source_or_error.Goals as goal

pub returns-clause-some : goal.returns-clause-some
returns-clause-some c = source_or_error

pub returns-clause-one : goal.returns-clause-one
returns-clause-one c = never_both
