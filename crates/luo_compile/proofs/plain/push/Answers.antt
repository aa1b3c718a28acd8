use Rattle.luo_compile.proofs.CodeLemmas.{pushed}
use Rattle.luo_compile.proofs.plain.push.Goals as goal

pub returns : goal.returns
returns c = pushed _ _ _ c.in_ok-push.ensures.ok
