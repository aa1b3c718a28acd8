use Rattle.std.proofs.Common.{◌≡◌, ◌++◌, drop}
use Rattle.luo_model.specs.View.{item_list}
use Rattle.luo_recipes.specs.Tasks.{sites_on}
use Rattle.luo_engine.proofs.scopes.sites_of.Given as goal

abbrev pub invariant-loop-item : goal.invariant-loop-item
invariant-loop-item l = l.sites ++ sites_on l.var (item_list (drop l.item-index l.items)) ≡ sites_on l.var (item_list l.items)
