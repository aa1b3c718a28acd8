use Rattle.std.proofs.Common.{subst}
use Rattle.luo_model.specs.View.{Held, plain_of}
use Rattle.luo_model.specs.Invariant.{IsProgram}
use Rattle.luo_rank.proofs.filling.node_count.Goals as goal

pub returns-clause-proper : goal.returns-clause-proper
returns-clause-proper c = subst (λ (h : Held). IsProgram (plain_of h)) c.program.view_is c.program.invariant
