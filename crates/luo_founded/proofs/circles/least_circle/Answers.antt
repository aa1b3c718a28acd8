use Rattle.std.proofs.Common.{MatchOption, subst, arith}
use Rattle.luo_founded.specs.inner.Graph.{Edge, IsShortCircle}
use Rattle.luo_founded.proofs.LayerLemmas.{named_at, no_circle_before, all_homes}
use Rattle.luo_finite.specs.Walk.{OnCircle}
use Rattle.luo_founded.proofs.circles.least_circle.Goals as goal

pub returns-in-Some : goal.returns-in-Some
returns-in-Some c = (
  c.loop-home.home,
  named_at c.args.edges.now c.loop-home.home c.in-Some.chain
      (subst (λ o. MatchOption o (OnCircle (Edge c.args.edges.now) c.loop-home.home → ⊥) (IsShortCircle (Edge c.args.edges.now) c.loop-home.home)) c.in-Some.is c.in_ok-chain.ensures) c.loop-home.invariant,
)

pub loop-home-preserved : goal.loop-home-preserved
loop-home-preserved c = no_circle_before c.args.edges.now c.loop-home.home
    (subst (λ o. MatchOption o (OnCircle (Edge c.args.edges.now) c.loop-home.home → ⊥) (IsShortCircle (Edge c.args.edges.now) c.loop-home.home)) c.in_default.is c.in_ok-chain.ensures) c.loop-home.invariant

pub returns : goal.returns
returns c = all_homes c.args.edges.now (λ x h. c.loop-home.invariant x (omega (arith, h, c.loop-home-test.false)))
