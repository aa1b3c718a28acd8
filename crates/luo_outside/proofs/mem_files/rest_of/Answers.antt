use Rattle.std.proofs.Common.{arith}
use Rattle.luo_outside.proofs.Content.{left_over, within}
use Rattle.luo_outside.proofs.mem_files.rest_of.Goals as goal

pub returns-else-done-text-clause-rest : goal.returns-else-done-text-clause-rest
returns-else-done-text-clause-rest c = left_over _ _ _ _ _ c.in-Some.is (within _ _ _ c.in-Some.is c.requires) c.index-files-i.is (grind arith)
