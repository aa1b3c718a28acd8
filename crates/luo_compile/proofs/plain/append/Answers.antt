use Rattle.luo_compile.proofs.CodeLemmas.{appended}
use Rattle.luo_compile.proofs.plain.append.Goals as goal

pub returns : goal.returns
returns c = appended _ _ _ c.in_ok-append.ensures
