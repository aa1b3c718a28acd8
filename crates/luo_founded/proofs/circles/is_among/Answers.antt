use Rattle.std.proofs.Common.{◌≡◌, ℕ, refl, subst, arith}
use Rattle.luo_finite.specs.Listing.{In}
use Rattle.luo_finite.proofs.Membership.{In-at}
use Rattle.luo_finite.proofs.Loops.{all_next, all_end, all_in}
use Rattle.luo_founded.proofs.circles.is_among.Goals as goal

pub loop-target-preserved : goal.loop-target-preserved
loop-target-preserved c =
    all_next (λ k (target : ℕ). target ≡ c.args.y → ⊥) c.args.targets.now c.loop-target.target-index _ c.loop-target.invariant c.if-target-y.false

pub returns-then-target-y : goal.returns-then-target-y
returns-then-target-y c = (λ t. subst (λ (z : ℕ). In z c.args.targets.now) c.if-target-y.true (In-at c.args.targets.now c.loop-target.target-index _ c.loop-target-test.true), λ all. refl)

pub returns : goal.returns
returns c = (
  λ t. absurd (cc),
  λ h. absurd (all_in (λ (target : ℕ). target ≡ c.args.y → ⊥) c.args.targets.now (all_end (λ k (target : ℕ). target ≡ c.args.y → ⊥) c.args.targets.now c.loop-target.target-index (omega (arith, c.loop-target-test.false)) c.loop-target.invariant) c.args.y h refl),
)
