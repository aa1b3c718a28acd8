use Rattle.std.proofs.Common.{◌≡◌, ◌+◌, ◌++◌, drop}
use Rattle.luo_model.specs.View.{item_list}
use Rattle.luo_recipes.specs.Tasks.{factors_from}
use Rattle.luo_engine.specs.inner.Laying.{links_from}
use Rattle.luo_engine.proofs.scopes.push_factors.Given as goal

abbrev pub invariant-loop-j : goal.invariant-loop-j
invariant-loop-j l = l.links ++ links_from (l.start + l.j) (factors_from (item_list l.items) l.j (drop l.j l.parts)) ≡ l.fn.links ++ links_from l.start (factors_from (item_list l.items) 0 l.parts)
