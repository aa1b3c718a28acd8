use Rattle.std.proofs.Common.{ap, subst}
use Rattle.luo_model.specs.declared.program.Kind.{Kind}
use Rattle.luo_model.specs.declared.program.Universe.TheVariants.{Unlabelled}
use Rattle.luo_counting.specs.Items.{Suits}
use Rattle.luo_unlabelled.specs.Calls.{Calls}
use Rattle.luo_unlabelled.proofs.CallLemmas.{counted}
use Rattle.luo_unlabelled.proofs.line.Line.count_at.Goals as goal

pub returns-clause-counted : goal.returns-clause-counted
returns-clause-counted c = counted c.args.self.now c.args.comp.now c.args.here (subst (λ (k : Kind). Suits Unlabelled k c.args.self.now.low) (ap (λ (t : Calls). t.kind) c.self.view_is) tt) c.requires
