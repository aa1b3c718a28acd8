use Rattle.std.proofs.Common.{ap, subst}
use Rattle.luo_model.specs.declared.program.Kind.{Kind}
use Rattle.luo_unlabelled.specs.Calls.{Calls, IsOfParts}
use Rattle.luo_unlabelled.proofs.CallLemmas.{counted}
use Rattle.luo_unlabelled.proofs.PartCalls.{suits_parts}
use Rattle.luo_unlabelled.proofs.SizeCalls.{two_alone}
use Rattle.luo_unlabelled.proofs.unbounded.Unbounded.count_at.Goals as goal

pub returns-clause-counted : goal.returns-clause-counted
returns-clause-counted c =
    counted c.args.self.now c.args.comp.now c.args.here (suits_parts c.args.self.now.kind c.args.self.now.low (subst (λ (k : Kind). IsOfParts k) (ap (λ (t : Calls). t.kind) c.self.view_is) c.self.invariant.parts)) c.requires

pub next_number-number-requires-clause-here_alone : goal.next_number-number-requires-clause-here_alone
next_number-number-requires-clause-here_alone c = two_alone c.args.self.now c.self.inside.low c.args.here (ap (λ (t : Calls). t.high) c.self.view_is) (ap (λ (t : Calls). t.low) c.self.view_is) c.requires.here_alone
