use Rattle.luo_model.specs.View.{plain_of}
use Rattle.luo_engine.proofs.PushLemmas.{PushedSoFar}
use Rattle.luo_engine.proofs.scopes.push_union.Given as goal

abbrev pub invariant-loop-b : goal.invariant-loop-b
invariant-loop-b l = PushedSoFar (plain_of l.program) l.starts l.fn.links l.links l.scopes l.arms l.parts l.b
