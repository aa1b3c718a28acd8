use Rattle.std.proofs.Common.{subst, sym}
use Rattle.luo_finite.specs.Listing.{In}
use Rattle.luo_finite.proofs.Membership.{In-at}
use Rattle.luo_engine.proofs.tasks.scopes_sum.Goals as goal

pub scope_at-value-requires-clause-there : goal.scope_at-value-requires-clause-there
scope_at-value-requires-clause-there c = c.requires.there c.scope-item.result (subst (λ z. In z c.args.scopes.now) (sym c.scope-item.is) (In-at c.args.scopes.now c.loop-scope.scope-index _ c.loop-scope-test.true))
