use Rattle.std.proofs.Common.{IsTrue, false, refl, arith}
use Rattle.luo_founded.specs.inner.Marks.{Marked}
use Rattle.luo_finite.proofs.Loops.{all_next, all_end, not_next, all_in, in_all}
use Rattle.luo_founded.proofs.peeling.all_gone.Goals as goal

pub loop-y-preserved : goal.loop-y-preserved
loop-y-preserved c = all_next (λ k y. Marked c.args.gone.now y) c.args.targets.now c.loop-y.y-index _ c.loop-y.invariant (c.if-not-is_marked.ensures.0 refl)

pub returns-then-not-is_marked : goal.returns-then-not-is_marked
returns-then-not-is_marked c = (
  λ t. absurd (cc),
  λ all. absurd (not_next (λ k y. Marked c.args.gone.now y) c.args.targets.now c.loop-y.y-index _ c.loop-y-test.true
      (λ h. let t : IsTrue false = c.if-not-is_marked.ensures.1 h in cc) (in_all (Marked c.args.gone.now) c.args.targets.now all)),
)

pub returns : goal.returns
returns c = (
  λ t. all_in (Marked c.args.gone.now) c.args.targets.now (all_end (λ k y. Marked c.args.gone.now y) c.args.targets.now c.loop-y.y-index (omega (arith, c.loop-y-test.false)) c.loop-y.invariant),
  λ all. refl,
)
