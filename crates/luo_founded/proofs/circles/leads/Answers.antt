use Rattle.std.proofs.Common.{ℕ, refl, arith}
use Rattle.luo_finite.proofs.Membership.{In-at}
use Rattle.luo_founded.specs.inner.Marks.{Marked}
use Rattle.luo_finite.proofs.Loops.{all_next, all_end, all_in}
use Rattle.luo_founded.proofs.circles.leads.Goals as goal

pub loop-y-preserved : goal.loop-y-preserved
loop-y-preserved c =
    all_next (λ k (y : ℕ). Marked c.args.table.now y → ⊥) c.args.targets.now c.loop-y.y-index _ c.loop-y.invariant (λ m. let t = c.if-is_marked.ensures.1 m in cc)

pub returns-then-is_marked : goal.returns-then-is_marked
returns-then-is_marked c = (λ t. (_, In-at c.args.targets.now c.loop-y.y-index _ c.loop-y-test.true, c.if-is_marked.ensures.0 refl), λ all. refl)

pub returns : goal.returns
returns c = (
  λ t. absurd (cc),
  λ h. absurd (all_in (λ (y : ℕ). Marked c.args.table.now y → ⊥) c.args.targets.now (all_end (λ k (y : ℕ). Marked c.args.table.now y → ⊥) c.args.targets.now c.loop-y.y-index (omega (arith, c.loop-y-test.false)) c.loop-y.invariant) h.0 h.1 h.2),
)
