use Rattle.std.proofs.Common.{◌≡◌, drop, flat_map}
use Rattle.luo_types.specs.inner.Held.{breaches_in}
use Rattle.luo_types.proofs.expressions.Checker.+expressions.Given as goal

abbrev pub invariant-exprs-loop-expr : goal.invariant-exprs-loop-expr
invariant-exprs-loop-expr l = flat_map (breaches_in l.self.universe l.self.names.now) (drop l.expr-index l.exprs) ≡ flat_map (breaches_in l.self.universe l.self.names.now) l.exprs
