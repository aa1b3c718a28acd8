use Rattle.std.proofs.Common.{sym, subst}
use Rattle.luo_struct.specs.View.{tree_of}
use Rattle.luo_stepper.specs.declared.stepping.Step.TheVariants as step
use Rattle.luo_stepper.specs.inner.Stepping.{IsSome, Stepped}
use Rattle.luo_stepper.proofs.FollowingLemmas.{some_here, next_has_place}
use Rattle.luo_stepper.proofs.following.behind.Goals as goal

pub step_on-requires-clause-here : goal.step_on-requires-clause-here
step_on-requires-clause-here c =
    subst (λ y. IsSome c.tables.result.now y (tree_of c.args.s)) (sym c.node.ensures) (some_here c.tables.result.now c.args.ranker.now.program c.args.ranker.now.size c.tables.ensures.same c.args.ranker.now.node (tree_of c.args.s) c.requires.here.there)

pub returns-in-Next : goal.returns-in-Next
returns-in-Next c =
    next_has_place c.tables.result.now c.args.ranker.now.program c.args.ranker.now.size c.tables.ensures.same c.args.ranker.now.node (tree_of c.args.s) c.args.place c.step_on.new.labels c.in-Next.next c.requires.here
    (subst (λ y. Stepped c.tables.result.now y (tree_of c.args.s) c.step_on.new.labels (step.Next c.in-Next.next)) c.node.ensures
    (subst (Stepped c.tables.result.now c.node.result (tree_of c.args.s) c.step_on.new.labels) c.in-Next.is c.in_ok-next.ensures))
